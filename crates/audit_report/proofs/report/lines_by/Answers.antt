use Rattle.std.proofs.Common.{Ok, ap, sym, ◌∙◌}
use Rattle.document_core.proofs.Causes.{raised_text}
use Rattle.audit_report.proofs.Reports.{lines_refused, lines_stopped, lines_told}
use Rattle.audit_report.proofs.report.lines_by.Goals as goal

pub returns-in_err-project : goal.returns-in_err-project
returns-in_err-project c =
    raised_text _ _ _ _ c.from_residual.ensures.1 (lines_refused _ _ _ _ c.in_err-project.ensures)

pub returns-in_err-audit : goal.returns-in_err-audit
returns-in_err-audit c =
    raised_text _ _ _ _ c.from_residual-in_err-audit.ensures.1
    (lines_stopped _ _ _ _ _ c.in_ok-project.ensures (rw c.as_str.ensures at c.in_err-audit.ensures))

pub returns : goal.returns
returns c = lines_told _ _ _ _ _ c.in_ok-project.ensures (rw c.as_str.ensures at c.in_ok-audit.ensures)
    ∙ ap Ok (sym c.in_ok-lines_of.ensures)
