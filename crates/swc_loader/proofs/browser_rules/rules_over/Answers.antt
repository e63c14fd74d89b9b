use Rattle.tree_core.proofs.Asking.{asks_as, asks_done, asks_fails}
use Rattle.swc_loader.specs.BrowserRules.{rules_over}
use Rattle.swc_loader.proofs.browser_rules.rules_over.Goals as goal

pub returns-in_err-folder : goal.returns-in_err-folder
unfolding rules_over
returns-in_err-folder g c = asks_fails _ _ c.from_residual.ensures.1 c.in_err-folder.ensures

pub returns-in-Some : goal.returns-in-Some
unfolding rules_over
returns-in-Some g c = asks_as _ c.in_ok-folder.ensures c.in-Some.is c.rules_at.ensures

pub returns-in-None : goal.returns-in-None
unfolding rules_over
returns-in-None g c = asks_as _ c.in_ok-folder.ensures c.in-None.is (asks_done c.new.ensures)
