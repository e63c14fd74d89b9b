use Rattle.resolve_stack.proofs.KnownOrders.{join_same}
use Rattle.resolve_stack.proofs.pnp_resolver.PnpResolverResolve.resolve.Goals as goal

pub returns-clause-resolves : goal.returns-clause-resolves
returns-clause-resolves g c = rw (c.as_slice.ensures.value, c.new-nothing.ensures.items, join_same) at c.join.ensures
