use Rattle.std.proofs.Common.{sym, ◌∙◌}
use Rattle.json_reading.proofs.LastMembers.{last-found, last-passed}
use Rattle.json_reading.proofs.given_up.last_of.Goals as goal

pub loop-key-preserved-then-eq : goal.loop-key-preserved-then-eq
loop-key-preserved-then-eq c = (
  tt,
  tt,
  last-found c.args.name.now c.loop-key.yielded c.in-Some.key c.in-Some.member
      (sym c.eq.ensures ∙ c.if-eq.true),
)

pub loop-key-preserved-else-eq : goal.loop-key-preserved-else-eq
loop-key-preserved-else-eq c = (
  tt,
  tt,
  last-passed c.args.name.now c.loop-key.yielded c.in-Some.key c.in-Some.member _
      (sym c.eq.ensures ∙ c.if-eq.false) c.loop-key.invariant.2,
)

pub loop-key-preserved-else-eq-2 : goal.loop-key-preserved-else-eq-2
loop-key-preserved-else-eq-2 c = (
  tt,
  tt,
  last-passed c.args.name.now c.loop-key.yielded c.in-Some.key c.in-Some.member
      _ (sym c.eq.ensures ∙ c.if-eq.false) c.loop-key.invariant.2,
)

pub loop-key-preserved : goal.loop-key-preserved
loop-key-preserved c = (
  tt,
  tt,
  last-passed c.args.name.now c.loop-key.yielded c.in-Some.key c.in-Some.member _
      (sym c.eq.ensures ∙ c.if-eq.false) c.loop-key.invariant.2,
)
