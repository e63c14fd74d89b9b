-- What a graph document gives: a graph session before its steps, and the steps.
-- A `do` here is over results: it goes on with what a step gives, and ends by the first error.
use Rattle.std.specs.Prelude.{
  ℕ,
  List,
  [],
  bytes_eq,
  codes,
  Option,
  Some,
  None,
  is_some,
  option_and_then,
  option_map,
  if◌then◌else◌,
  Result,
  Ok,
}
use Rattle.std.specs.FinMap as finite
use Rattle.serde_json.specs.Data.{Data}
use Rattle.serde_json.specs.Find.{get, as_str}
use Rattle.json_reading.specs.Kinds.{is_null}
use Rattle.json_reading.specs.Reading.{field_by, field_or, list_by}
use Rattle.document_core.specs.Cause.{◌>>=◌}
use Rattle.document_core.specs.Document.{project_in, put_files, settings_in}
use Rattle.document_core.specs.Fields.{project_fields_of, required}
use Rattle.document_core.specs.Given.{file_of}
use Rattle.document_core.specs.Json.{json_value}
use Rattle.document_core.specs.declared.cause.Cause.{Cause}
use Rattle.document_core.specs.declared.cause.Field.TheVariants as field
use Rattle.session_report.specs.Given.{capacity_of}
use Rattle.import_graph.specs.EsScan.{es_imports_of}
use Rattle.import_graph.specs.GraphState.{GraphState, entry_refusal}
use Rattle.import_graph.specs.Lines.{imports_of}
use Rattle.graph_report.specs.declared.document.GraphDocument.{GraphDocument}
use Rattle.graph_report.specs.declared.scanner.Scanner.{Scanner}
use Rattle.graph_report.specs.declared.scanner.Scanner.TheVariants.{Lines, Es}
use Rattle.graph_report.specs.declared.step.GraphStep.{GraphStep}
use Rattle.graph_report.specs.declared.step.GraphStep.TheVariants.{Graph, Put, Remove}

-- the graph is asked for by null
abbrev pub asking_in : Data → Option GraphStep
asking_in d = if is_null d then Some Graph else None

-- exactly one of the fields that steps have
abbrev pub step_in : Option Data → Option Data → Option Data → Option GraphStep
step_in (Some graph) None None = asking_in graph
step_in None (Some file) None = option_map Put (file_of file)
step_in None None (Some path) = option_map Remove (as_str path)
step_in _ _ _ = None

-- a step: the graph is asked for, a file is put, or the path of one that is taken out
unfoldable pub step_of : Data → Option GraphStep
step_of d = step_in (get (codes "graph") d) (get (codes "put") d) (get (codes "remove") d)

-- texts of which none is refused: each is a clean absolute path other than `/`
abbrev pub if_entries : List (List ℕ) → Option (List (List ℕ))
if_entries texts = if is_some (entry_refusal texts) then None else Some texts

abbrev pub entries_of : Data → Option (List (List ℕ))
entries_of d = option_and_then if_entries (list_by as_str d)

abbrev pub scanner_named : List ℕ → Option Scanner
scanner_named name =
    if bytes_eq name (codes "es") then Some Es
    else if bytes_eq name (codes "lines") then Some Lines
    else None

-- what tells the imports of files
abbrev pub scanner_of : Data → Option Scanner
scanner_of d = option_and_then scanner_named (as_str d)

-- what the bytes of a file import: by its lines, or by its tokens
abbrev pub imports_by : Scanner → List ℕ → List (List ℕ)
imports_by Lines = imports_of
imports_by Es = es_imports_of

-- the graph document that a JSON value gives, or the first cause against its fields
unfoldable pub fields_of : Data → Result GraphDocument Cause
fields_of d = do
  project ← project_fields_of d
  entries ← required field.Entries (field_by (codes "entries") entries_of d)
  capacity ← required field.Capacity (field_by (codes "capacity") capacity_of d)
  steps ← required field.Steps (field_by (codes "steps") (list_by step_of) d)
  scanner ← required field.Scanner (field_or (codes "scanner") Lines scanner_of d)
  Ok (record { project = project; entries = entries; capacity = capacity; steps = steps; scanner = scanner })

-- the fields of a graph document, or the first cause against them
unfoldable pub fields_in : List ℕ → Result GraphDocument Cause
fields_in bytes = do
  value ← json_value bytes
  fields_of value

-- a graph session on the document's files before its first step, its steps, and what tells the imports of files
pub record Given : Type 0 where
  pub session : GraphState
  pub steps : List GraphStep
  pub scanner : Scanner

-- what a graph document gives, or the first cause against it
unfoldable pub graph_document : List ℕ → Result Given Cause
graph_document bytes = do
  fields ← fields_in bytes
  files ← put_files finite.empty fields.project.files
  project ← project_in (settings_in fields.project.settings fields.project.lock)
  Ok (record {
    session = record {
      session = record {
        project = project;
        tree = record { files = files; questions = 0 };
        capacity = fields.capacity;
        kept = [];
      };
      entries = fields.entries;
    };
    steps = fields.steps;
    scanner = fields.scanner;
  })
