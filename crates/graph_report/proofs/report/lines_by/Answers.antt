use Rattle.std.proofs.Common.{Ok, ap, sym, ◌∙◌}
use Rattle.session_core.specs.Session.{Session}
use Rattle.session_core.specs.SessionView.{state_of}
use Rattle.document_core.proofs.Causes.{raised_text}
use Rattle.import_graph.specs.GraphState.{GraphState}
use Rattle.graph_report.specs.Given.{imports_by}
use Rattle.graph_report.specs.Lines.{step_lines}
use Rattle.graph_report.proofs.Reports.{lines_refused}
use Rattle.graph_report.proofs.Steps.{lines-counted}
use Rattle.graph_report.proofs.report.lines_by.Goals as goal

pub returns-in_err-made : goal.returns-in_err-made
returns-in_err-made c =
    raised_text _ _ _ _ c.from_residual.ensures.1 (lines_refused _ _ _ _ _ _ _ c.in_err-made.ensures)

pub returns-in_err-lines_told : goal.returns-in_err-lines_told
returns-in_err-lines_told c = raised_text _ _ _ _ c.from_residual-in_err-lines_told.ensures.1 tt

pub returns : goal.returns
returns c =
    let imports = imports_by c.args.document.scanner in
    let from_entries : Session → GraphState = λ s. record { session = s; entries = c.args.document.entries } in
    rw c.in_ok-made.ensures
    (ap Ok (sym (
    c.in_ok-lines_told.ensures
    ∙ ap (step_lines imports (from_entries (state_of c.in_ok-session.session))) c.as_slice.ensures
    ∙ ap (λ s. step_lines imports s c.args.document.steps) (ap from_entries c.in_ok-session.ensures)
    ∙ lines-counted imports c.args.document.steps _ c.args.tree.questions)))
