use Rattle.std.proofs.Common.{sym}
use Rattle.pnp_core.proofs.Owners.{entries_of-push, map-insert-set}
use Rattle.pnp_core.proofs.readers.collect_exclusions.Goals as goal

pub loop-name-preserved : goal.loop-name-preserved
loop-name-preserved c = (
  tt,
  tt,
  rw (
    c.in_ok-insert.ensures.entries,
    map-insert-set,
    c.loop-name.invariant.2,
    c.references.view_is,
  ) (sym (entries_of-push c.loop-name.yielded c.in-Some.name c.in-Some.references)),
)

pub loop-name-preserved-in_ok-insert : goal.loop-name-preserved-in_ok-insert
loop-name-preserved-in_ok-insert c = (
  tt,
  tt,
  rw (c.in_ok-insert.ensures.entries, map-insert-set, c.loop-name.invariant.2, c.references.view_is)
      (sym (entries_of-push c.loop-name.yielded c.in-Some.name c.in-Some.references)),
)
