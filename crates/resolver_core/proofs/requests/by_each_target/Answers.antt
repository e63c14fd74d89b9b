use Rattle.std.proofs.Common.{Err, refl, ap}
use Rattle.tree_core.proofs.Asking.{asks_as, asks_done, asks_fails, asks_starved}
use Rattle.resolver_core.specs.declared.refusal.TsRefusal.TheVariants.{TsFault}
use Rattle.resolver_core.specs.Mapping.{by_mapped}
use Rattle.resolver_core.proofs.requests.by_each_target.Goals as goal

pub returns-in_err-tried-clause-asks : goal.returns-in_err-tried-clause-asks
unfolding by_mapped
returns-in_err-tried-clause-asks g c =
    asks_fails _ _ c.from_residual.ensures.1 (rw c.as_slice.ensures at c.in_err-tried.ensures.asks)

pub returns-in-Ok-clause-asks : goal.returns-in-Ok-clause-asks
unfolding by_mapped
returns-in-Ok-clause-asks g c =
    asks_as _ (rw c.as_slice.ensures at c.in_ok-tried.ensures.asks) c.in-Ok.is (asks_done refl)

pub returns-in_err-pattern-in-Err-clause-asks : goal.returns-in_err-pattern-in-Err-clause-asks
unfolding by_mapped
returns-in_err-pattern-in-Err-clause-asks g c =
    asks_as _ (rw c.as_slice.ensures at c.in_ok-tried.ensures.asks) c.in-Err.is
    (asks_starved _ c.from_residual-in_err-pattern-in-Err.ensures.1)

pub returns-in_ok-pattern-in-Err-clause-asks : goal.returns-in_ok-pattern-in-Err-clause-asks
unfolding by_mapped
returns-in_ok-pattern-in-Err-clause-asks g c =
    asks_as _ (rw c.as_slice.ensures at c.in_ok-tried.ensures.asks) c.in-Err.is
    (asks_done (ap (λ pattern. Err (TsFault pattern c.in-Err.refusals)) c.in_ok-pattern-in-Err.ensures))
