use Rattle.std.proofs.Common.{Err, refl}
use Rattle.lock_checks.specs.Borrowed.{borrowed}
use Rattle.lock_checks.proofs.Bindings.{borrowed_err}
use Rattle.tree_core.specs.Resolving.{resolving}
use Rattle.tree_core.proofs.Asking.{asks_then, asks_done, asks_fails_in, asks_decided}
use Rattle.resolve_stack.proofs.join_rows.checked_row.Goals as goal

pub returns-in-Ok-clause-asks : goal.returns-in-Ok-clause-asks
returns-in-Ok-clause-asks g c = asks_then _ (rw c.lock.ensures at c.in-Ok.ensures.asks) (asks_done refl)

pub returns-in_ok-refusal-in-Err-clause-asks : goal.returns-in_ok-refusal-in-Err-clause-asks
returns-in_ok-refusal-in-Err-clause-asks g c =
    asks_then _ (rw (c.lock.ensures, ← c.in_ok-refusal-in-Err.ensures) at c.in-Err.ensures.asks)
    (asks_decided (Err c.refused_binding.result) c.refused_binding.ensures)

pub returns-in_err-refusal-in-Err-clause-asks : goal.returns-in_err-refusal-in-Err-clause-asks
returns-in_err-refusal-in-Err-clause-asks g c =
    asks_fails_in resolving _ (borrowed c.from_residual.result) (borrowed_err _ _ c.from_residual.ensures.1)
    (rw (c.lock.ensures, ← c.in_err-refusal-in-Err.ensures) at c.in-Err.ensures.asks)
