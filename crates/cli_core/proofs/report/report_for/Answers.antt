use Rattle.document_core.proofs.Causes.{raised_text}
use Rattle.cli_core.proofs.Reports.{report_by, report_stopped, report_untreed}
use Rattle.cli_core.proofs.report.report_for.Goals as goal

pub returns-in_err-settings : goal.returns-in_err-settings
returns-in_err-settings c =
    raised_text _ _ _ _ c.from_residual.ensures.1 (report_stopped c.args.form _ _ c.in_err-settings.ensures)

pub returns-in_err-tree : goal.returns-in_err-tree
returns-in_err-tree c =
    let filed = rw c.as_slice.ensures at c.in_err-tree.ensures in
    raised_text _ _ _ _ c.from_residual-in_err-tree.ensures.1
    (report_untreed c.args.form _ c.in_ok-settings.field-0 _ c.in_ok-settings.ensures filed)

pub returns : goal.returns
returns c =
    let filed = rw c.as_slice.ensures at c.in_ok-tree.ensures in
    let lines = rw c.as_slice-2.ensures at c.lines_by.ensures in
    report_by c.args.form _ c.in_ok-settings.field-0 _ _ c.in_ok-settings.ensures filed lines
