use Rattle.std.proofs.Common.{length}
use Rattle.tree_core.specs.Asks.{Leads}
use Rattle.pnp_core.specs.Nearest.{nearest}
use Rattle.pnp_core.proofs.nearest.closest_manifest.Given as goal

-- what is left is asked from the folder
abbrev pub invariant-up : goal.invariant-up
invariant-up g l = Leads (g.R.Asker.asking l.fn.tree) (g.R.Asker.asking l.tree) (nearest l.path) (nearest l.folder)

abbrev pub decreases-up : goal.decreases-up
decreases-up g l = length l.folder
