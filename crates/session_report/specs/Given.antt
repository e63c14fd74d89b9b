-- What a session document gives: a session before its steps, and the steps.
-- A `do` here is over results: it goes on with what a step gives, and ends by the first error.
use Rattle.std.specs.Prelude.{
  ℕ,
  ◌&&◌,
  nat_lt,
  nat_le,
  List,
  [],
  codes,
  Option,
  Some,
  None,
  option_and_then,
  option_map,
  if◌then◌else◌,
  Result,
  Ok,
}
use Rattle.std.specs.FinMap as finite
use Rattle.serde_json.specs.Data.{Data}
use Rattle.serde_json.specs.Find.{get, as_str, as_number, as_u64}
use Rattle.json_reading.specs.Reading.{field_by, list_by}
use Rattle.document_core.specs.Cause.{◌>>=◌}
use Rattle.document_core.specs.Document.{project_in, put_files, settings_in}
use Rattle.document_core.specs.Fields.{project_fields_of, required}
use Rattle.document_core.specs.Given.{file_of, request_of}
use Rattle.document_core.specs.Json.{json_value}
use Rattle.document_core.specs.declared.cause.Cause.{Cause}
use Rattle.document_core.specs.declared.cause.Field.TheVariants as field
use Rattle.session_core.specs.Session.{Session}
use Rattle.session_report.specs.declared.document.SessionDocument.{SessionDocument}
use Rattle.session_report.specs.declared.step.Step.{Step}
use Rattle.session_report.specs.declared.step.Step.TheVariants.{Ask, Put, Remove}

-- exactly one of the fields that steps have
abbrev pub step_in : Option Data → Option Data → Option Data → Option Step
step_in (Some request) None None = option_map Ask (request_of request)
step_in None (Some file) None = option_map Put (file_of file)
step_in None None (Some path) = option_map Remove (as_str path)
step_in _ _ _ = None

-- a step: a request that is asked, a file that is put, or the path of one that is taken out
unfoldable pub step_of : Data → Option Step
step_of d = step_in (get (codes "ask") d) (get (codes "put") d) (get (codes "remove") d)

-- a number of outcomes that a session may keep
abbrev pub within_limit : ℕ → Option ℕ
within_limit n = if nat_lt 0 n && nat_le n 65536 then Some n else None

abbrev pub capacity_of : Data → Option ℕ
capacity_of d = option_and_then within_limit (option_and_then as_u64 (as_number d))

-- the session document that a JSON value gives, or the first cause against its fields
unfoldable pub fields_of : Data → Result SessionDocument Cause
fields_of d = do
  project ← project_fields_of d
  capacity ← required field.Capacity (field_by (codes "capacity") capacity_of d)
  steps ← required field.Steps (field_by (codes "steps") (list_by step_of) d)
  Ok (record { project = project; capacity = capacity; steps = steps })

-- the fields of a session document, or the first cause against them
unfoldable pub fields_in : List ℕ → Result SessionDocument Cause
fields_in bytes = do
  value ← json_value bytes
  fields_of value

-- a session on the document's files before its first step, and its steps
pub record Given : Type 0 where
  pub session : Session
  pub steps : List Step

-- what a session document gives, or the first cause against it
unfoldable pub session_document : List ℕ → Result Given Cause
session_document bytes = do
  fields ← fields_in bytes
  files ← put_files finite.empty fields.project.files
  project ← project_in (settings_in fields.project.settings fields.project.lock)
  Ok (record {
    session = record {
      project = project;
      tree = record { files = files; questions = 0 };
      capacity = fields.capacity;
      kept = [];
    };
    steps = fields.steps;
  })
