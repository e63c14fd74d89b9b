use Rattle.std.proofs.Common.{sym}
use Rattle.pnp_core.proofs.Owners.{entries_of-named, map-insert-rows}
use Rattle.pnp_core.proofs.readers.collect_registry.Goals as goal

pub loop-name-preserved : goal.loop-name-preserved
loop-name-preserved c = (
  tt,
  tt,
  rw (
    c.in_ok-insert.ensures.entries,
    map-insert-rows,
    c.loop-name.invariant.2,
    c.references.view_is,
    c.name_or_empty.ensures,
  ) (sym (entries_of-named c.loop-name.yielded c.in-Some.name
      c.in-Some.references)),
)

pub loop-name-preserved-in_ok-insert : goal.loop-name-preserved-in_ok-insert
loop-name-preserved-in_ok-insert c = (
  tt,
  tt,
  rw (
    c.in_ok-insert.ensures.entries,
    map-insert-rows,
    c.loop-name.invariant.2,
    c.references.view_is,
    c.name_or_empty.ensures,
  ) (sym (entries_of-named c.loop-name.yielded c.in-Some.name c.in-Some.references)),
)
