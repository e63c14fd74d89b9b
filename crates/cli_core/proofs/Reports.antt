-- The report on a document, from what its reading came to.
use Rattle.std.specs.FinMap as finite
use Rattle.std.proofs.Common.{◌≡◌, ℕ, Bool, List, Result, Ok, Err, refl}
use Rattle.tree_core.specs.Tree.{Files}
use Rattle.resolve_stack.specs.Settings.{ProjectSettings}
use Rattle.document_core.specs.Cause.{◌>>=◌, Meets}
use Rattle.document_core.specs.Document.{Given, fields_in, document, project_in, put_files, settings_in}
use Rattle.document_core.specs.declared.cause.Cause.{Cause}
use Rattle.document_core.specs.declared.cause.DocumentError.{DocumentError}
use Rattle.document_core.specs.declared.cause.DocumentError.TheVariants.{Refused}
use Rattle.document_core.specs.declared.cause.DocumentError.TheVariants as ended
use Rattle.document_core.specs.declared.fields.Document.{Document}
use Rattle.disk_report.specs.declared.forms.OutcomeForm.{OutcomeForm}
use Rattle.cli_core.specs.Report.{lines_by, lines_of, report}

-- the report on a document whose fields are refused, and on one of whose files is
pub report_stopped : (form : OutcomeForm) (bytes : List ℕ) (e : DocumentError)
    → Meets {A = Document} (Err e) (fields_in bytes) → Meets {A = List ℕ} (Err e) (report form bytes)
unfolding report document
report_stopped form bytes (Refused cause) found = rw found refl
report_stopped form bytes ended.NoMemory found = tt

pub report_untreed : (form : OutcomeForm) (bytes : List ℕ) (fields : Document) (e : DocumentError)
    → fields_in bytes ≡ Ok fields → Meets {A = Files} (Err e) (put_files finite.empty fields.files)
    → Meets {A = List ℕ} (Err e) (report form bytes)
unfolding report document
report_untreed form bytes fields (Refused cause) read found = rw (read, found) refl
report_untreed form bytes fields ended.NoMemory read found = tt

-- the report by a document's settings, on the tree of its files
pub report_by : (form : OutcomeForm) (bytes : List ℕ) (fields : Document) (t : Files)
    (result : Result (List ℕ) DocumentError) → fields_in bytes ≡ Ok fields → put_files finite.empty fields.files ≡ Ok t
    → Meets result (lines_by form t fields.requests (project_in (settings_in fields.settings fields.lock)))
    → Meets result (report form bytes)
unfolding report document
report_by form bytes fields t result read filed lines =
    rw (read, filed) (by_project (project_in (settings_in fields.settings fields.lock)) lines)
  where
    given_by : ProjectSettings → Result Given Cause
    given_by project = Ok (record { files = t; project = project; requests = fields.requests })

    lines_given : Given → Result (List ℕ) Cause
    lines_given given = Ok (lines_of form given.files given.project given.requests)

    by_project : (made : Result ProjectSettings Cause) → Meets result (lines_by form t fields.requests made)
        → Meets result ((made >>= given_by) >>= lines_given)
    by_project (Ok project) told = told
    by_project (Err cause) told = told
