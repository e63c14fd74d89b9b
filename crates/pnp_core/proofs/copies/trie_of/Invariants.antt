use Rattle.std.proofs.Common.{◌≡◌, [], map}
use Rattle.sugar_path.specs.Path.{Path, IsPath}
use Rattle.pnp_core.specs.Manifest.{rows}
use Rattle.pnp_core.specs.Relocated.{overlaid}
use Rattle.pnp_core.proofs.copies.trie_of.Given as goal

-- the rows that are left over the trie are all rows
abbrev pub invariant-loop-name : goal.invariant-loop-name
invariant-loop-name l =
    (goal.iterator-loop-name).can_next l.name-iterator × (goal.iterator-loop-name).is_finite l.name-iterator
    × ((p : Path) → IsPath p → overlaid (rows (map (λ named. (named.0, named.1.entries)) l.name-iterator)) l.trie p ≡
    overlaid (rows (map (λ named. (named.0, named.1.entries)) l.registry.entries)) [] p)
