use Rattle.std.proofs.Common.{sym, ◌∙◌}
use Rattle.tree_core.proofs.Asking.{asks_done}
use Rattle.swc_loader.proofs.resolver.NodeModulesResolver.rules_at.Goals as goal

pub returns-in-Browser : goal.returns-in-Browser
returns-in-Browser g c = rw (sym c.target.ensures ∙ c.in-Browser.is) (rw c.conventions.ensures at c.rules_at.ensures)

pub returns-in-Node : goal.returns-in-Node
returns-in-Node g c = rw (sym c.target.ensures ∙ c.in-Node.is) (asks_done c.new.ensures)
