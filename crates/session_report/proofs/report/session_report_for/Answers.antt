use Rattle.document_core.proofs.Causes.{raised_text}
use Rattle.session_report.proofs.Reports.{report_by, report_stopped, report_untreed}
use Rattle.session_report.proofs.report.session_report_for.Goals as goal

pub returns-in_err-document : goal.returns-in_err-document
returns-in_err-document c =
    raised_text _ _ _ _ c.from_residual.ensures.1 (report_stopped _ _ c.in_err-document.ensures.fields)

pub returns-in_err-tree : goal.returns-in_err-tree
returns-in_err-tree c =
    let filed = rw c.as_slice.ensures at c.in_err-tree.ensures in
    raised_text _ _ _ _ c.from_residual-in_err-tree.ensures.1
    (report_untreed _ c.in_ok-document.document _ c.in_ok-document.ensures.fields filed)

pub returns : goal.returns
returns c =
    let filed = rw c.as_slice.ensures at c.in_ok-tree.ensures in
    let lines = rw c.as_slice-2.ensures at c.lines_by.ensures in
    report_by _ c.in_ok-document.document _ _ c.in_ok-document.ensures.fields filed lines
