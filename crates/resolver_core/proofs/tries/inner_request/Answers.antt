use Rattle.std.proofs.Common.{Ok, refl, ap}
use Rattle.tree_core.proofs.Asking.{asks_as, asks_done, asks_fails, asks_starved}
use Rattle.resolver_core.specs.Mapping.{tried}
use Rattle.resolver_core.proofs.tries.inner_request.Goals as goal

pub returns-in_err-found-clause-asks : goal.returns-in_err-found-clause-asks
unfolding tried
returns-in_err-found-clause-asks g c =
    asks_fails _ _ c.from_residual.ensures.1 (rw (← c.in_err-found.ensures) at c.resolve-outcome.ensures.resolves)

pub returns-in_err-masked-in-Ok-clause-asks : goal.returns-in_err-masked-in-Ok-clause-asks
unfolding tried
returns-in_err-masked-in-Ok-clause-asks g c =
    asks_as _ (rw (← c.in_ok-found.ensures) at c.resolve-outcome.ensures.resolves) c.in-Ok.is
    (asks_starved _ c.from_residual-in_err-masked-in-Ok.ensures.1)

pub returns-in_ok-masked-in-Ok-clause-asks : goal.returns-in_ok-masked-in-Ok-clause-asks
unfolding tried
returns-in_ok-masked-in-Ok-clause-asks g c =
    asks_as _ (rw (← c.in_ok-found.ensures) at c.resolve-outcome.ensures.resolves) c.in-Ok.is
    (asks_done (ap (λ r. Ok r) c.in_ok-masked-in-Ok.ensures))

pub returns-in-Err-clause-asks : goal.returns-in-Err-clause-asks
unfolding tried
returns-in-Err-clause-asks g c =
    asks_as _ (rw (← c.in_ok-found.ensures) at c.resolve-outcome.ensures.resolves) c.in-Err.is (asks_done refl)
