use Rattle.std.proofs.Common.{refl}
use Rattle.tree_core.proofs.Entries.{same_files-refl}
use Rattle.audit_report.proofs.report.audit_of.Goals as goal

pub returns-in-Ok : goal.returns-in-Ok
returns-in-Ok c = rw (c.in-Ok.ensures.audits.answers c.args.tree.now.files (same_files-refl c.args.tree.now.files)) refl

pub returns-in-Err-NoLock : goal.returns-in-Err-NoLock
returns-in-Err-NoLock c =
    let answers = rw c.in-Err-NoLock.field-0-is at c.in-Err-NoLock.ensures.audits.answers in
    rw (answers c.args.tree.now.files (same_files-refl c.args.tree.now.files)) refl

pub returns-in-Err-Hydration : goal.returns-in-Err-Hydration
returns-in-Err-Hydration c =
    let answers = rw c.in-Err-Hydration.field-0-is at c.in-Err-Hydration.ensures.audits.answers in
    rw (answers c.args.tree.now.files (same_files-refl c.args.tree.now.files)) refl
