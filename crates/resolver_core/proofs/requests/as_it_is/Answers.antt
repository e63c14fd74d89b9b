use Rattle.tree_core.proofs.Asking.{asks_then, asks_done, asks_fails}
use Rattle.resolver_core.specs.Mapping.{by_mapped}
use Rattle.resolver_core.proofs.requests.as_it_is.Goals as goal

pub returns-in_err-tried-clause-asks : goal.returns-in_err-tried-clause-asks
unfolding by_mapped
returns-in_err-tried-clause-asks g c = asks_fails _ _ c.from_residual.ensures.1 c.in_err-tried.ensures.asks

pub returns-clause-asks : goal.returns-clause-asks
unfolding by_mapped
returns-clause-asks g c = asks_then _ c.in_ok-tried.ensures.asks (asks_done c.passed.ensures)
