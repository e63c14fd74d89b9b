use Rattle.resolve_stack.proofs.KnownOrders.{verdict_same}
use Rattle.resolve_stack.proofs.import.decide.Goals as goal

pub returns : goal.returns
returns g c = rw (c.as_slice.ensures.value, c.new-nothing.ensures.items, verdict_same) at c.decide_by.ensures
