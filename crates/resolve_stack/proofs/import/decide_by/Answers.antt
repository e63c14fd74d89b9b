use Rattle.std.proofs.Common.{refl}
use Rattle.tree_core.proofs.Asking.{asks_then, asks_done, asks_fails}
use Rattle.resolve_stack.specs.Known.{verdict_by}
use Rattle.resolve_stack.proofs.import.decide_by.Goals as goal

pub returns-in-Ok : goal.returns-in-Ok
unfolding verdict_by
returns-in-Ok g c = asks_then _ c.in-Ok.ensures (asks_done refl)

pub returns-in_ok-refusal-in-Err : goal.returns-in_ok-refusal-in-Err
unfolding verdict_by
returns-in_ok-refusal-in-Err g c =
    asks_then _ (rw (← c.in_ok-refusal-in-Err.ensures) at c.in-Err.ensures) (asks_done refl)

pub returns-in_err-refusal-in-Err : goal.returns-in_err-refusal-in-Err
unfolding verdict_by
returns-in_err-refusal-in-Err g c =
    asks_fails _ _ c.from_residual.ensures.1 (rw (← c.in_err-refusal-in-Err.ensures) at c.in-Err.ensures)
