use Rattle.std.proofs.Common.{refl}
use Rattle.tree_core.specs.Resolving.{kind}
use Rattle.tree_core.proofs.Asking.{asks_done, asks_fails, asks_then}
use Rattle.lock_checks.specs.Fault.{binding_fault}
use Rattle.lock_checks.proofs.Bindings.{asks_refused, asks_refused_not}
use Rattle.lock_checks.proofs.binding.check_binding.Goals as goal

pub returns-in-Ok : goal.returns-in-Ok
unfolding binding_fault
returns-in-Ok g c = asks_then _ c.in-Ok.ensures.asks (asks_done refl)

pub returns-in_ok-refusal-in-Err : goal.returns-in_ok-refusal-in-Err
unfolding binding_fault
returns-in_ok-refusal-in-Err g c = asks_then _ (asks_refused (kind c.in-Err.error) _ c.in_ok-refusal-in-Err.ensures
    c.in-Err.ensures.asks) (asks_done refl)

pub returns-in_err-refusal-in-Err : goal.returns-in_err-refusal-in-Err
unfolding binding_fault
returns-in_err-refusal-in-Err g c = asks_fails _ _ c.from_residual.ensures.1
    (asks_refused_not (kind c.in-Err.error) _ c.in_err-refusal-in-Err.ensures c.in-Err.ensures.asks)
