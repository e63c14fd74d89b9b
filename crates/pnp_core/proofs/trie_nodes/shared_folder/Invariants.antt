use Rattle.std.proofs.Common.{◌≡◌, length, true}
use Rattle.sugar_path.specs.Path.{Path, below}
use Rattle.pnp_core.proofs.trie_nodes.shared_folder.Given as goal

-- no longer folder is shared
abbrev pub invariant-loop-folder : goal.invariant-loop-folder
invariant-loop-folder l =
    (below l.one l.folder ≡ true) × ((k : Path) → below l.one k ≡ true → below l.other k ≡ true
    → below l.folder k ≡ true)

abbrev pub decreases-loop-folder : goal.decreases-loop-folder
decreases-loop-folder l = length l.folder
