use Rattle.std.proofs.Common.{refl, sym, ap, ◌∙◌}
use Rattle.tree_core.proofs.Asking.{asks_as, asks_done, asks_fails, asks_starved}
use Rattle.swc_loader.specs.declared.browser_rules.Source.TheVariants.{Specifier}
use Rattle.swc_loader.proofs.browser_rules.source_of.Goals as goal

pub returns-then-not-begins_here : goal.returns-then-not-begins_here
returns-then-not-begins_here g c =
    rw (sym c.begins_here.ensures ∙ c.if-not-begins_here.true) (asks_done (ap Specifier c.in_ok-of.ensures))

pub returns-in_err-file : goal.returns-in_err-file
returns-in_err-file g c =
    rw (sym c.begins_here.ensures ∙ c.if-not-begins_here.false)
    (asks_fails _ _ c.from_residual-in_err-file.ensures.1 c.in_err-file.ensures)

pub returns-in_err-of-in-None : goal.returns-in_err-of-in-None
returns-in_err-of-in-None g c =
    rw (sym c.begins_here.ensures ∙ c.if-not-begins_here.false)
    (asks_as _ c.in_ok-file.ensures c.in-None.is (asks_starved _ c.from_residual-in_err-of-in-None.ensures.1))

pub returns-in-Some : goal.returns-in-Some
returns-in-Some g c =
    rw (sym c.begins_here.ensures ∙ c.if-not-begins_here.false)
    (asks_as _ c.in_ok-file.ensures c.in-Some.is (asks_done refl))

pub returns-in_ok-of-in-None : goal.returns-in_ok-of-in-None
returns-in_ok-of-in-None g c =
    rw (sym c.begins_here.ensures ∙ c.if-not-begins_here.false)
    (asks_as _ c.in_ok-file.ensures c.in-None.is (asks_done (ap Specifier c.in_ok-of-in-None.ensures)))
