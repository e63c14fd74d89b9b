use Rattle.std.proofs.Common.{length}
use Rattle.tree_core.specs.Asks.{Leads}
use Rattle.swc_loader.specs.BrowserRules.{root}
use Rattle.swc_loader.proofs.browser_rules.root.Given as goal

-- what is left is asked above the folder
abbrev pub invariant-up : goal.invariant-up
invariant-up g l = Leads (g.R.Asker.asking l.fn.tree) (g.R.Asker.asking l.tree) (root l.path) (root l.folder)

abbrev pub decreases-up : goal.decreases-up
decreases-up g l = length l.folder
