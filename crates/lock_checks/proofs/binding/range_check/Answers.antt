use Rattle.tree_core.specs.Resolving.{resolving}
use Rattle.tree_core.proofs.Asking.{asks_decided, asks_stops, asks_then}
use Rattle.lock_checks.specs.Checks.{range_check}
use Rattle.lock_checks.proofs.binding.range_check.Goals as goal

pub returns-in_err-range : goal.returns-in_err-range
unfolding range_check
returns-in_err-range g c = asks_stops resolving _ _ _ c.from_residual.ensures.1 c.in_err-range.ensures.asks

pub returns : goal.returns
unfolding range_check
returns g c = asks_then _ c.in_ok-range.ensures.asks (asks_decided _ (rw c.version.ensures at c.within.ensures))
