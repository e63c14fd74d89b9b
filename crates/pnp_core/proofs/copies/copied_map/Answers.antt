use Rattle.pnp_core.proofs.Copying.{copied-entry}
use Rattle.pnp_core.proofs.copies.copied_map.Goals as goal

pub loop-name-preserved : goal.loop-name-preserved
loop-name-preserved g c = (
  tt,
  tt,
  rw (c.in_ok-insert.ensures.entries, c.in_ok-try_clone.ensures)
      (copied-entry g.V.Bound.told c.loop-name.copy.entries c.next.new.self c.args.values.now.entries c.in-Some.name.now
      c.in-Some.value.now c.in_ok-copied.field-0 c.len.ensures.unique
      (rw c.in-Some.ensures.steps at c.loop-name.invariant.2) c.in_ok-copied.ensures),
)

pub loop-name-preserved-in_ok-insert : goal.loop-name-preserved-in_ok-insert
loop-name-preserved-in_ok-insert g c = (
  tt,
  tt,
  rw (c.in_ok-insert.ensures.entries, c.in_ok-try_clone.ensures)
      (copied-entry g.V.Bound.told c.loop-name.copy.entries c.next.new.self c.args.values.now.entries c.in-Some.name.now
      c.in-Some.value.now c.in_ok-copied.field-0 c.len.ensures.unique
      (rw c.in-Some.ensures.steps at c.loop-name.invariant.2) c.in_ok-copied.ensures),
)
