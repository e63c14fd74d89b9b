use Rattle.std.proofs.Common.{refl, sym, ◌∙◌}
use Rattle.tree_core.proofs.Asking.{asks_then, asks_done, asks_fails, asks_starved}
use Rattle.swc_loader.proofs.browser_rules.rule_for.Goals as goal

pub returns-in-Node : goal.returns-in-Node
returns-in-Node g c = rw (sym c.target.ensures ∙ c.in-Node.is) (asks_done refl)

pub returns-in_err-rules-in-Browser : goal.returns-in_err-rules-in-Browser
returns-in_err-rules-in-Browser g c =
    rw (sym c.target.ensures ∙ c.in-Browser.is)
    (asks_fails _ _ c.from_residual.ensures.1 (rw c.conventions.ensures at c.in_err-rules-in-Browser.ensures))

pub returns-in_err-ruled-in-Browser : goal.returns-in_err-ruled-in-Browser
returns-in_err-ruled-in-Browser g c =
    rw (sym c.target.ensures ∙ c.in-Browser.is)
    (asks_then _ (rw c.conventions.ensures at c.in_ok-rules-in-Browser.ensures)
    (asks_starved _ c.from_residual-in_err-ruled-in-Browser.ensures.1))

pub returns-in_ok-ruled-in-Browser : goal.returns-in_ok-ruled-in-Browser
returns-in_ok-ruled-in-Browser g c =
    rw (sym c.target.ensures ∙ c.in-Browser.is)
    (asks_then _ (rw c.conventions.ensures at c.in_ok-rules-in-Browser.ensures)
    (asks_done (rw c.as_slice.ensures at c.in_ok-ruled-in-Browser.ensures)))
