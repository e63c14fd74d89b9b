use Rattle.std.proofs.Common.{Ok, Err, ap, sym, ◌∙◌}
use Rattle.document_core.proofs.Causes.{raised_text}
use Rattle.bundle_report.proofs.Bundled.{report_by, report_stopped, report_untreed}
use Rattle.bundle_report.proofs.bundling.bundle_report_for.Goals as goal

pub returns-in_err-settings : goal.returns-in_err-settings
returns-in_err-settings c = raised_text _ _ _ _ c.from_residual.ensures.1 (report_stopped _ _ c.in_err-settings.ensures)

pub returns-in_err-tree : goal.returns-in_err-tree
returns-in_err-tree c =
    let filed = rw c.as_slice.ensures at c.in_err-tree.ensures in
    raised_text _ _ _ _ c.from_residual-in_err-tree.ensures.1
    (report_untreed _ c.in_ok-settings.field-0 _ c.in_ok-settings.ensures filed)

pub returns-in_err-text : goal.returns-in_err-text
returns-in_err-text c =
    let filed = rw c.as_slice.ensures at c.in_ok-tree.ensures in
    let text = rw c.as_slice-2.ensures at c.in_err-text.ensures in
    raised_text _ _ _ _ c.from_residual-in_err-text.ensures.1
    (report_by _ c.in_ok-settings.field-0 _ (Err _) c.in_ok-settings.ensures filed text)

pub returns : goal.returns
returns c =
    let filed = rw c.as_slice.ensures at c.in_ok-tree.ensures in
    let text = rw c.as_slice-2.ensures at c.in_ok-text.ensures in
    report_by _ c.in_ok-settings.field-0 _ (Ok _) c.in_ok-settings.ensures filed text
    ∙ ap Ok (sym c.in_ok-into_string.ensures)
