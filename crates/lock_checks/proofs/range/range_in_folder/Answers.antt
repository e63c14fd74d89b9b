use Rattle.tree_core.specs.Resolving.{resolving}
use Rattle.tree_core.proofs.Asking.{asks_decided, asks_fails_in, asks_then}
use Rattle.lock_checks.specs.Borrowed.{borrowed_if_any}
use Rattle.lock_checks.specs.Range.{range_in_folder}
use Rattle.lock_checks.proofs.Bindings.{borrowed_if_any_err}
use Rattle.lock_checks.proofs.range.range_in_folder.Goals as goal

pub returns-in_err-content-clause-asks : goal.returns-in_err-content-clause-asks
unfolding range_in_folder
returns-in_err-content-clause-asks g c =
    asks_fails_in resolving _ (borrowed_if_any c.from_residual-in_err-content.result)
    (borrowed_if_any_err _ _ c.from_residual-in_err-content.ensures.1)
    (rw c.in_ok-file.ensures at c.in_err-content.ensures)

pub returns-clause-asks : goal.returns-clause-asks
unfolding range_in_folder
returns-clause-asks g c = asks_then _ (rw c.in_ok-file.ensures at c.in_ok-content.ensures)
    (asks_decided (borrowed_if_any c.range_in_content.result)
    (rw c.in_ok-file.ensures at c.range_in_content.ensures.decided))
