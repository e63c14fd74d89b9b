use Rattle.std.proofs.Common.{Some, refl, ap}
use Rattle.tree_core.proofs.Asking.{asks_as, asks_then, asks_done, asks_fails, asks_starved}
use Rattle.swc_loader.specs.NodeRows.{ruled_specifier}
use Rattle.swc_loader.proofs.resolver.NodeModulesResolver.ruled_specifier.Goals as goal

pub returns-in_err-module_rule_with : goal.returns-in_err-module_rule_with
unfolding ruled_specifier
returns-in_err-module_rule_with g c = asks_fails _ _ c.from_residual.ensures.1 c.in_err-module_rule_with.ensures

pub returns-in_err-of-in-Ignored : goal.returns-in_err-of-in-Ignored
unfolding ruled_specifier
returns-in_err-of-in-Ignored g c = asks_as _ c.in_ok-module_rule_with.ensures c.in-Ignored.is
    (asks_starved _ c.from_residual-in_err-of-in-Ignored.ensures.1)

pub returns-in_err-answer-in-File : goal.returns-in_err-answer-in-File
unfolding ruled_specifier
returns-in_err-answer-in-File g c =
    let relative = rw c.cwd.ensures at c.is_below-relative.ensures in
    asks_as _ c.in_ok-module_rule_with.ensures c.in-File.is (asks_fails _ _
    c.from_residual-in_err-answer-in-File.ensures.1 (rw relative at c.in_err-answer-in-File.ensures))

pub returns-in-NoRule : goal.returns-in-NoRule
unfolding ruled_specifier
returns-in-NoRule g c = asks_as _ c.in_ok-module_rule_with.ensures c.in-NoRule.is (asks_done refl)

pub returns-in_ok-of-in-Ignored : goal.returns-in_ok-of-in-Ignored
unfolding ruled_specifier
returns-in_ok-of-in-Ignored g c =
    asks_as _ c.in_ok-module_rule_with.ensures c.in-Ignored.is
    (asks_done (ap (λ r. Some r) (rw c.in_ok-of-in-Ignored.ensures at c.custom.ensures)))

pub returns-in_ok-answer-in-File : goal.returns-in_ok-answer-in-File
unfolding ruled_specifier
returns-in_ok-answer-in-File g c =
    let relative = rw c.cwd.ensures at c.is_below-relative.ensures in
    asks_as _ c.in_ok-module_rule_with.ensures c.in-File.is (asks_then _ (rw relative at c.in_ok-answer-in-File.ensures)
    (asks_done refl))
