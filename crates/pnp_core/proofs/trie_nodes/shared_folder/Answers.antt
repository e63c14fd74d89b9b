use Rattle.std.proofs.Common.{sym, ◌∙◌}
use Rattle.sugar_path.proofs.Below.{below-same}
use Rattle.pnp_core.proofs.Walking.{parent-shorter}
use Rattle.pnp_core.proofs.TrieWays.{shared_up, above_root}
use Rattle.pnp_core.proofs.trie_nodes.shared_folder.Goals as goal

pub loop-folder-init : goal.loop-folder-init
loop-folder-init c = rw c.in_ok-folder.ensures (below-same c.args.one.now, λ k h f. h)

pub loop-folder-smaller : goal.loop-folder-smaller
loop-folder-smaller c = rw c.go_up.ensures.up (parent-shorter c.loop-folder.folder
    (above_root c.args.other.now c.loop-folder.folder (sym c.is_below.ensures ∙ c.loop-folder-test.true)))

pub loop-folder-preserved : goal.loop-folder-preserved
loop-folder-preserved c =
    rw c.go_up.ensures.up (shared_up c.args.one.now c.args.other.now c.loop-folder.folder c.loop-folder.invariant.0
    c.loop-folder.invariant.1 (sym c.is_below.ensures ∙ c.loop-folder-test.true))
