-- The report on a session document, from what its reading came to.
use Rattle.std.specs.FinMap as finite
use Rattle.std.proofs.Common.{◌≡◌, ℕ, List, [], Result, Ok, Err, refl}
use Rattle.tree_core.specs.Tree.{Files}
use Rattle.resolve_stack.specs.Settings.{ProjectSettings}
use Rattle.document_core.specs.Cause.{◌>>=◌, Meets}
use Rattle.document_core.specs.Document.{project_in, put_files, settings_in}
use Rattle.document_core.specs.declared.cause.Cause.{Cause}
use Rattle.document_core.specs.declared.cause.DocumentError.{DocumentError}
use Rattle.document_core.specs.declared.cause.DocumentError.TheVariants.{Refused}
use Rattle.document_core.specs.declared.cause.DocumentError.TheVariants as ended
use Rattle.session_report.specs.declared.document.SessionDocument.{SessionDocument}
use Rattle.session_report.specs.Given.{Given, fields_in, session_document}
use Rattle.session_report.specs.Lines.{step_lines}
use Rattle.session_report.specs.Report.{lines_by, session_report}

-- the report on a document whose fields are refused, and on one of whose files is
pub report_stopped : (bytes : List ℕ) (e : DocumentError) → Meets {A = SessionDocument} (Err e) (fields_in bytes)
    → Meets {A = List ℕ} (Err e) (session_report bytes)
unfolding session_report session_document
report_stopped bytes (Refused cause) found = rw found refl
report_stopped bytes ended.NoMemory found = tt

pub report_untreed : (bytes : List ℕ) (fields : SessionDocument) (e : DocumentError) → fields_in bytes ≡ Ok fields
    → Meets {A = Files} (Err e) (put_files finite.empty fields.project.files)
    → Meets {A = List ℕ} (Err e) (session_report bytes)
unfolding session_report session_document
report_untreed bytes fields (Refused cause) read found = rw (read, found) refl
report_untreed bytes fields ended.NoMemory read found = tt

-- the report by a document's settings, on the tree of its files
pub report_by : (bytes : List ℕ) (fields : SessionDocument) (t : Files) (result : Result (List ℕ) DocumentError)
    → fields_in bytes ≡ Ok fields → put_files finite.empty fields.project.files ≡ Ok t
    → Meets result (lines_by t fields.capacity fields.steps (project_in
    (settings_in fields.project.settings fields.project.lock))) → Meets result (session_report bytes)
unfolding session_report session_document
report_by bytes fields t result read filed lines =
    rw (read, filed) (by_project (project_in (settings_in fields.project.settings fields.project.lock)) lines)
  where
    given_by : ProjectSettings → Result Given Cause
    given_by project = Ok (record {
      session = record {
        project = project;
        tree = record { files = t; questions = 0 };
        capacity = fields.capacity;
        kept = [];
      };
      steps = fields.steps;
    })

    lines_given : Given → Result (List ℕ) Cause
    lines_given given = Ok (step_lines given.session given.steps)

    by_project : (made : Result ProjectSettings Cause) → Meets result (lines_by t fields.capacity fields.steps made)
        → Meets result ((made >>= given_by) >>= lines_given)
    by_project (Ok project) told = told
    by_project (Err cause) told = told
