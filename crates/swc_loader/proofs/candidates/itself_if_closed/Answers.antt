use Rattle.std.proofs.Common.{ap, Some, refl}
use Rattle.tree_core.proofs.Asking.{asks_as, asks_done, asks_fails}
use Rattle.swc_loader.proofs.candidates.itself_if_closed.Goals as goal

pub returns-then-not-closed : goal.returns-then-not-closed
returns-then-not-closed g c = rw c.if-not-closed.true (asks_done refl)

pub returns-in_err-is_file : goal.returns-in_err-is_file
returns-in_err-is_file g c = rw c.if-not-closed.false (asks_fails _ _ c.from_residual-in_err-is_file.ensures.1
    (rw c.in_ok-candidate.ensures at c.in_err-is_file.ensures))

pub returns-then-branch : goal.returns-then-branch
returns-then-branch g c = rw c.if-not-closed.false (asks_as _ (rw c.in_ok-candidate.ensures at c.in_ok-is_file.ensures)
    c.if-branch.true (asks_done (ap Some c.in_ok-candidate.ensures)))

pub returns : goal.returns
returns g c = rw c.if-not-closed.false (asks_as _ (rw c.in_ok-candidate.ensures at c.in_ok-is_file.ensures)
    c.if-branch.false (asks_done refl))
