use Rattle.std.proofs.Common.{refl}
use Rattle.tree_core.specs.Resolving.{resolving}
use Rattle.tree_core.proofs.Asking.{asks_as, asks_decided, asks_done, asks_fails_in}
use Rattle.resolve_stack.specs.Exports.{exports_at, exports_in, exports_seen}
use Rattle.resolve_stack.proofs.ExportedFiles.{unseen_err}
use Rattle.resolve_stack.proofs.exports.package_at.Goals as goal

pub returns-in_err-is_file : goal.returns-in_err-is_file
unfolding exports_at
returns-in_err-is_file g c =
    asks_fails_in resolving _ (exports_seen c.from_residual-in_err-is_file.result)
    (unseen_err _ _ c.from_residual-in_err-is_file.ensures.1) (rw c.in_ok-file.ensures at c.in_err-is_file.ensures)

pub returns-then-not-branch : goal.returns-then-not-branch
unfolding exports_at
returns-then-not-branch g c =
    asks_as _ (rw c.in_ok-file.ensures at c.in_ok-is_file.ensures) c.if-not-branch.true (asks_done refl)

pub returns-in_err-content : goal.returns-in_err-content
unfolding exports_at exports_in
returns-in_err-content g c =
    asks_as _ (rw c.in_ok-file.ensures at c.in_ok-is_file.ensures) c.if-not-branch.false
    (asks_fails_in resolving _ (exports_seen c.from_residual-in_err-content.result)
    (unseen_err _ _ c.from_residual-in_err-content.ensures.1) (rw c.in_ok-file.ensures at c.in_err-content.ensures))

pub returns-in-Some : goal.returns-in-Some
unfolding exports_at exports_in
returns-in-Some g c =
    asks_as _ (rw c.in_ok-file.ensures at c.in_ok-is_file.ensures) c.if-not-branch.false
    (asks_as _ (rw c.in_ok-file.ensures at c.in_ok-content.ensures) c.in-Some.is
    (asks_decided (exports_seen c.package_in.result) (rw c.in_ok-file.ensures at c.package_in.ensures)))

pub returns : goal.returns
unfolding exports_at exports_in
returns g c =
    asks_as _ (rw c.in_ok-file.ensures at c.in_ok-is_file.ensures) c.if-not-branch.false
    (asks_as _ (rw c.in_ok-file.ensures at c.in_ok-content.ensures) c.in-None.is (asks_done refl))
