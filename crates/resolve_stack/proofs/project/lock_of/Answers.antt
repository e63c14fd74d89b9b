use Rattle.resolve_stack.specs.Settings.{lock_in}
use Rattle.resolve_stack.proofs.Projects.{refused_by, lock_unread, lock_read}
use Rattle.resolve_stack.proofs.project.lock_of.Goals as goal

pub returns-in_err-file-clause-fault : goal.returns-in_err-file-clause-fault
returns-in_err-file-clause-fault c =
    refused_by (lock_in c.args.text.now) _ _ c.from_residual.ensures.1
    (lock_unread _ c.args.text.now c.in_err-file.ensures.refused)

pub returns-clause-ok : goal.returns-clause-ok
returns-clause-ok c = rw c.in_ok-of.ensures (lock_read c.args.text.now _ c.in_ok-file.ensures.read)
