use Rattle.std.proofs.Common.{refl}
use Rattle.tree_core.proofs.Asking.{asks_done}
use Rattle.lock_checks.proofs.Bindings.{asks_place}
use Rattle.lock_checks.proofs.range.declared_range.Goals as goal

pub returns-in-None-clause-asks : goal.returns-in-None-clause-asks
returns-in-None-clause-asks g c = asks_place c.args.edge.now.name.now _ _ c.in-None.ensures (asks_done refl)
