use Rattle.std.proofs.Common.{refl, ap}
use Rattle.tree_core.proofs.Asking.{asks_as, asks_done, asks_fails, asks_starved}
use Rattle.swc_loader.specs.declared.located.Placed.TheVariants.{Ignored}
use Rattle.swc_loader.specs.BrowserRules.{ruled_file}
use Rattle.swc_loader.proofs.browser_rules.ruled_file.Goals as goal

pub returns-in_err-rule_for : goal.returns-in_err-rule_for
unfolding ruled_file
returns-in_err-rule_for g c =
    asks_fails _ _ c.from_residual-in_err-rule_for.ensures.1 (rw c.in_ok-copy.ensures at c.in_err-rule_for.ensures)

pub returns-in_err-into_text-in-Ignored : goal.returns-in_err-into_text-in-Ignored
unfolding ruled_file
returns-in_err-into_text-in-Ignored g c =
    asks_as _ (rw c.in_ok-copy.ensures at c.in_ok-rule_for.ensures) c.in-Ignored.is
    (asks_starved _ c.from_residual-in_err-into_text-in-Ignored.ensures.1)

pub returns-in-NoRule : goal.returns-in-NoRule
unfolding ruled_file
returns-in-NoRule g c = asks_as _ (rw c.in_ok-copy.ensures at c.in_ok-rule_for.ensures) c.in-NoRule.is (asks_done refl)

pub returns-in_ok-into_text-in-Ignored : goal.returns-in_ok-into_text-in-Ignored
unfolding ruled_file
returns-in_ok-into_text-in-Ignored g c =
    asks_as _ (rw c.in_ok-copy.ensures at c.in_ok-rule_for.ensures) c.in-Ignored.is
    (asks_done (ap Ignored c.in_ok-into_text-in-Ignored.ensures.text))

pub returns-in-File : goal.returns-in-File
unfolding ruled_file
returns-in-File g c = asks_as _ (rw c.in_ok-copy.ensures at c.in_ok-rule_for.ensures) c.in-File.is (asks_done refl)
