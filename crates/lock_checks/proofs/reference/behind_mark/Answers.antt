use Rattle.std.proofs.Common.{lit<}
use Rattle.lock_checks.proofs.Texts.{behind_mark-split}
use Rattle.lock_checks.proofs.reference.behind_mark.Goals as goal

pub returns-in-Some : goal.returns-in-Some
returns-in-Some c = rw c.in-Some.is at (behind_mark-split c.args.text.now c.split_once.result
    (c.split_once.ensures.byte (lit< tt) (λ w o h. h)))

pub returns-in-None : goal.returns-in-None
returns-in-None c = rw c.in-None.is at (behind_mark-split c.args.text.now c.split_once.result
    (c.split_once.ensures.byte (lit< tt) (λ w o h. h)))
