-- What is written for a document: a line for each of its requests or steps, the lines of its audit, or the bundle of
-- its requests. A `do` here is over results: it goes on with what a step gives, and ends by the first error.
use Rattle.std.specs.Prelude.{ℕ, List, flat_map, Result, Ok, Err}
use Rattle.tree_core.specs.Tree.{Files}
use Rattle.resolve_stack.specs.Settings.{ProjectSettings}
use Rattle.document_core.specs.Cause.{◌>>=◌}
use Rattle.document_core.specs.Document.{document}
use Rattle.document_core.specs.Outcomes.{outcome_on}
use Rattle.document_core.specs.declared.cause.Cause.{Cause}
use Rattle.document_core.specs.declared.given.GivenRequest.{GivenRequest}
use Rattle.disk_report.specs.Forms.{told_as}
use Rattle.disk_report.specs.declared.forms.OutcomeForm.{OutcomeForm}
use Rattle.graph_report.specs.Report.{graph_report}
use Rattle.session_report.specs.Report.{session_report}
use Rattle.audit_report.specs.Report.{audit_report}
use Rattle.bundle_report.specs.Bundling.{bundle_report}
use Rattle.cli_core.specs.declared.document_kind.DocumentKind.{DocumentKind}
use Rattle.cli_core.specs.declared.document_kind.DocumentKind.TheVariants.{Requests, Steps, Graphs, Audit, Bundle}

-- what is told of requests, in order, in this form
abbrev pub lines_of : OutcomeForm → Files → ProjectSettings → List GivenRequest → List ℕ
lines_of form t project requests =
    flat_map (λ request. told_as form request.importer request.specifier (outcome_on t project request)) requests

-- the lines of a project's requests, or the cause against the project
abbrev pub lines_by :
    OutcomeForm → Files → List GivenRequest → Result ProjectSettings Cause → Result (List ℕ) Cause
lines_by form t requests (Ok project) = Ok (lines_of form t project requests)
lines_by form t requests (Err cause) = Err cause

-- the report on a document in this form, or the first cause against it
unfoldable pub report : OutcomeForm → List ℕ → Result (List ℕ) Cause
report form bytes = do
  given ← document bytes
  Ok (lines_of form given.files given.project given.requests)

-- the report on a document of a kind
abbrev pub report_of : DocumentKind → List ℕ → Result (List ℕ) Cause
report_of (Requests form) bytes = report form bytes
report_of Steps bytes = session_report bytes
report_of Graphs bytes = graph_report bytes
report_of Audit bytes = audit_report bytes
report_of Bundle bytes = bundle_report bytes
