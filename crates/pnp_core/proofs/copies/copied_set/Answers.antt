use Rattle.pnp_core.proofs.Copying.{copied-member}
use Rattle.pnp_core.proofs.copies.copied_set.Goals as goal

pub loop-member-preserved : goal.loop-member-preserved
loop-member-preserved g c = (
  tt,
  tt,
  rw (c.in_ok-insert.ensures.keys, c.in_ok-copied.ensures)
      (copied-member g.T.PartialEq.eq g.met.T.Eq.laws c.loop-member.copy.keys c.next.new.self c.args.members.now.keys
      c.in-Some.member.now c.len.ensures.unique (rw c.in-Some.ensures.steps at c.loop-member.invariant.2)),
)
