-- The report on a graph document, from what its reading came to.
use Rattle.std.specs.FinMap as finite
use Rattle.std.proofs.Common.{◌≡◌, ℕ, List, [], Result, Ok, Err, refl}
use Rattle.tree_core.specs.Tree.{Files}
use Rattle.resolve_stack.specs.Settings.{ProjectSettings}
use Rattle.document_core.specs.Cause.{◌>>=◌, Meets}
use Rattle.document_core.specs.Document.{project_in, put_files, settings_in}
use Rattle.document_core.specs.declared.cause.Cause.{Cause}
use Rattle.document_core.specs.declared.cause.DocumentError.{DocumentError}
use Rattle.document_core.specs.declared.cause.DocumentError.TheVariants.{Refused}
use Rattle.document_core.specs.declared.cause.DocumentError.TheVariants as ended
use Rattle.graph_report.specs.declared.document.GraphDocument.{GraphDocument}
use Rattle.graph_report.specs.declared.step.GraphStep.{GraphStep}
use Rattle.graph_report.specs.Given.{Given, fields_in, graph_document, imports_by}
use Rattle.graph_report.specs.Lines.{step_lines}
use Rattle.graph_report.specs.Report.{graph_report, lines_by}

-- the report on a document whose fields are refused, and on one of whose files is
pub report_stopped : (bytes : List ℕ) (e : DocumentError) → Meets {A = GraphDocument} (Err e) (fields_in bytes)
    → Meets {A = List ℕ} (Err e) (graph_report bytes)
unfolding graph_report graph_document
report_stopped bytes (Refused cause) found = rw found refl
report_stopped bytes ended.NoMemory found = tt

pub report_untreed : (bytes : List ℕ) (fields : GraphDocument) (e : DocumentError) → fields_in bytes ≡ Ok fields
    → Meets {A = Files} (Err e) (put_files finite.empty fields.project.files)
    → Meets {A = List ℕ} (Err e) (graph_report bytes)
unfolding graph_report graph_document
report_untreed bytes fields (Refused cause) read found = rw (read, found) refl
report_untreed bytes fields ended.NoMemory read found = tt

-- the report by a document's settings, on the tree of its files
pub report_by : (bytes : List ℕ) (fields : GraphDocument) (t : Files) (result : Result (List ℕ) DocumentError)
    → fields_in bytes ≡ Ok fields → put_files finite.empty fields.project.files ≡ Ok t
    → Meets result (lines_by (imports_by fields.scanner) t fields.entries fields.capacity fields.steps
    (project_in (settings_in fields.project.settings fields.project.lock))) → Meets result (graph_report bytes)
unfolding graph_report graph_document
report_by bytes fields t result read filed lines =
    rw (read, filed) (by_project (project_in (settings_in fields.project.settings fields.project.lock)) lines)
  where
    given_by : ProjectSettings → Result Given Cause
    given_by project = Ok (record {
      session = record {
        session = record {
          project = project;
          tree = record { files = t; questions = 0 };
          capacity = fields.capacity;
          kept = [];
        };
        entries = fields.entries;
      };
      steps = fields.steps;
      scanner = fields.scanner;
    })

    lines_given : Given → Result (List ℕ) Cause
    lines_given given = Ok (step_lines (imports_by given.scanner) given.session given.steps)

    by_project : (made : Result ProjectSettings Cause)
        → Meets result (lines_by (imports_by fields.scanner) t fields.entries fields.capacity fields.steps made)
        → Meets result ((made >>= given_by) >>= lines_given)
    by_project (Ok project) told = told
    by_project (Err cause) told = told

-- the lines in a project that is refused
pub lines_refused : (imports : List ℕ → List (List ℕ)) (t : Files) (entries : List (List ℕ)) (capacity : ℕ)
    (steps : List GraphStep)
    (made : Result ProjectSettings Cause) (e : DocumentError) → Meets {A = ProjectSettings} (Err e) made
    → Meets {A = List ℕ} (Err e) (lines_by imports t entries capacity steps made)
lines_refused imports t entries capacity steps made (Refused cause) found = rw found refl
lines_refused imports t entries capacity steps made ended.NoMemory found = tt
