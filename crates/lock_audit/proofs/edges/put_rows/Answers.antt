use Rattle.std.proofs.Common.{append_assoc}
use Rattle.lock_audit.proofs.edges.put_rows.Goals as goal

pub loop-reference-preserved : goal.loop-reference-preserved
loop-reference-preserved c = (
  tt,
  tt,
  rw (c.in_ok-put_row.ensures, append_assoc) (rw c.in-Some.ensures.steps at c.loop-reference.invariant.2),
)
