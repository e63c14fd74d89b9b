-- The report on an audit document, from what its reading came to.
use Rattle.std.specs.FinMap as finite
use Rattle.std.proofs.Common.{◌≡◌, ℕ, List, Result, Ok, Err, refl}
use Rattle.sugar_path.specs.Path.{Path, path_in}
use Rattle.tree_core.specs.Tree.{Files}
use Rattle.resolve_stack.specs.Settings.{ProjectSettings}
use Rattle.document_core.specs.Cause.{◌>>=◌, Meets}
use Rattle.document_core.specs.Document.{project_in, put_files, settings_in}
use Rattle.document_core.specs.declared.cause.Cause.{Cause}
use Rattle.document_core.specs.declared.cause.DocumentError.{DocumentError}
use Rattle.document_core.specs.declared.cause.DocumentError.TheVariants.{Refused}
use Rattle.document_core.specs.declared.cause.DocumentError.TheVariants as ended
use Rattle.document_core.proofs.Causes.{meets_stops}
use Rattle.lock_audit.specs.declared.audited.Audit.{Audit}
use Rattle.audit_report.specs.declared.document.AuditDocument.{AuditDocument}
use Rattle.audit_report.specs.Given.{Given, audit_document, fields_in}
use Rattle.audit_report.specs.Lines.{audit_lines}
use Rattle.audit_report.specs.Report.{audit_report, audited, lines_by}

-- the report on a document whose fields are refused, and on one of whose files is
pub report_stopped : (bytes : List ℕ) (e : DocumentError) → Meets {A = AuditDocument} (Err e) (fields_in bytes)
    → Meets {A = List ℕ} (Err e) (audit_report bytes)
unfolding audit_report audit_document
report_stopped bytes (Refused cause) found = rw found refl
report_stopped bytes ended.NoMemory found = tt

pub report_untreed : (bytes : List ℕ) (fields : AuditDocument) (e : DocumentError) → fields_in bytes ≡ Ok fields
    → Meets {A = Files} (Err e) (put_files finite.empty fields.project.files)
    → Meets {A = List ℕ} (Err e) (audit_report bytes)
unfolding audit_report audit_document
report_untreed bytes fields (Refused cause) read found = rw (read, found) refl
report_untreed bytes fields ended.NoMemory read found = tt

-- the report by a document's settings, on the tree of its files
pub report_by : (bytes : List ℕ) (fields : AuditDocument) (t : Files) (result : Result (List ℕ) DocumentError)
    → fields_in bytes ≡ Ok fields → put_files finite.empty fields.project.files ≡ Ok t
    → Meets result (lines_by t (path_in fields.manifest) (project_in
    (settings_in fields.project.settings fields.project.lock))) → Meets result (audit_report bytes)
unfolding audit_report audit_document
report_by bytes fields t result read filed lines =
    rw (read, filed) (by_project (project_in (settings_in fields.project.settings fields.project.lock)) lines)
  where
    given_by : ProjectSettings → Result Given Cause
    given_by project = Ok (record { files = t; project = project; manifest = path_in fields.manifest })

    lines_given : Given → Result (List ℕ) Cause
    lines_given given = audited given.files given.manifest given.project >>= λ audit. Ok (audit_lines audit)

    by_project : (made : Result ProjectSettings Cause) → Meets result (lines_by t (path_in fields.manifest) made)
        → Meets result ((made >>= given_by) >>= lines_given)
    by_project (Ok project) told = told
    by_project (Err cause) told = told

-- the lines in a project that is refused, of an audit that is, and of one that isn't
pub lines_refused : (t : Files) (manifest : Path) (made : Result ProjectSettings Cause) (e : DocumentError)
    → Meets {A = ProjectSettings} (Err e) made → Meets {A = List ℕ} (Err e) (lines_by t manifest made)
lines_refused t manifest made e stops =
    meets_stops (λ project. audited t manifest project >>= λ audit. Ok (audit_lines audit)) made e stops

pub lines_stopped : (t : Files) (manifest : Path) (made : Result ProjectSettings Cause) (project : ProjectSettings)
    (e : DocumentError) → made ≡ Ok project → Meets {A = Audit} (Err e) (audited t manifest project)
    → Meets {A = List ℕ} (Err e) (lines_by t manifest made)
lines_stopped t manifest made project e is stops =
    rw is (meets_stops (λ audit. Ok (audit_lines audit)) (audited t manifest project) e stops)

pub lines_told : (t : Files) (manifest : Path) (made : Result ProjectSettings Cause) (project : ProjectSettings)
    (audit : Audit) → made ≡ Ok project → audited t manifest project ≡ Ok audit
    → lines_by t manifest made ≡ Ok (audit_lines audit)
lines_told t manifest made project audit is told = rw (is, told) refl
