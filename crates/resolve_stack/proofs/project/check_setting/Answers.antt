use Rattle.std.proofs.Common.{refl, sym, ◌∙◌}
use Rattle.tree_core.proofs.Above.{is_clean-is}
use Rattle.resolve_stack.proofs.project.check_setting.Goals as goal

pub returns-then-not-is_clean-clause-fault : goal.returns-then-not-is_clean-clause-fault
returns-then-not-is_clean-clause-fault c =
    let unclean =
    sym (is_clean-is c.args.text.now c.is_clean.result c.is_clean.ensures.0 c.is_clean.ensures.1)
    ∙ c.if-not-is_clean.true in
    rw (unclean, c.in_ok-field.ensures) refl

pub returns-clause-ok : goal.returns-clause-ok
returns-clause-ok c =
    let clean = sym (is_clean-is c.args.text.now c.is_clean.result c.is_clean.ensures.0 c.is_clean.ensures.1)
    ∙ c.if-not-is_clean.false in
    rw clean refl
