use Rattle.lock_checks.proofs.Texts.{joined-some, joined-none}
use Rattle.std.proofs.Common.{◌∙◌}
use Rattle.lock_checks.proofs.naming.is_joined.Goals as goal

pub returns-in-Some : goal.returns-in-Some
returns-in-Some c =
    c.eq.ensures ∙ joined-some c.args.front.now c.args.rest.now c.args.text.now c.in-Some.behind.now c.in-Some.ensures

pub returns-in-None : goal.returns-in-None
returns-in-None c = joined-none c.args.front.now c.args.rest.now c.args.text.now c.in-None.ensures
