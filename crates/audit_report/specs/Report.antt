-- What is written for an audit document: the lines of its audit.
-- A `do` here is over results: it goes on with what a step gives, and ends by the first error.
use Rattle.std.specs.Prelude.{ℕ, List, Result, Ok}
use Rattle.sugar_path.specs.Path.{Path}
use Rattle.tree_core.specs.Asks.{widened}
use Rattle.tree_core.specs.Plan.{answer}
use Rattle.tree_core.specs.Tree.{Files}
use Rattle.resolve_stack.specs.Settings.{ProjectSettings}
use Rattle.document_core.specs.Cause.{◌>>=◌}
use Rattle.document_core.specs.declared.cause.Cause.{Cause}
use Rattle.document_core.specs.declared.cause.Cause.TheVariants as cause
use Rattle.lock_audit.specs.declared.audited.Audit.{Audit}
use Rattle.lock_audit.specs.Audit.{audit, NoLock, NoManifest, Refusal}
use Rattle.audit_report.specs.Given.{audit_document}
use Rattle.audit_report.specs.Lines.{audit_lines}

-- why there is no audit, as a cause against the document
abbrev pub cause_of : Refusal → Cause
cause_of NoLock = cause.NoLock
cause_of (NoManifest why) = cause.Hydration why

-- the audit of a tree's manifest in a project, or the cause against it
abbrev pub audited : Files → Path → ProjectSettings → Result Audit Cause
audited t manifest project = widened cause_of (answer t (audit project.lock manifest))

-- the lines of the audit in a project, or the cause against the project or the audit
abbrev pub lines_by : Files → Path → Result ProjectSettings Cause → Result (List ℕ) Cause
lines_by t manifest made = do
  project ← made
  audit ← audited t manifest project
  Ok (audit_lines audit)

-- the report on an audit document, or the first cause against it
unfoldable pub audit_report : List ℕ → Result (List ℕ) Cause
audit_report bytes = do
  given ← audit_document bytes
  audit ← audited given.files given.manifest given.project
  Ok (audit_lines audit)
