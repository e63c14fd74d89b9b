use Rattle.tree_core.proofs.Asking.{asks_starved}
use Rattle.swc_loader.proofs.browser_rules.place_behind.Goals as goal

pub returns-in_err-text : goal.returns-in_err-text
returns-in_err-text g c = asks_starved _ c.from_residual.ensures.1

pub returns-in_err-at : goal.returns-in_err-at
returns-in_err-at g c = asks_starved _ c.from_residual-in_err-at.ensures.1
