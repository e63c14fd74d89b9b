-- The fields of a document, as members of its JSON value, each with its kind and its default.
-- A `do` here is over results: it goes on with what a step gives, and ends by the first error.
use Rattle.std.specs.Prelude.{
  ℕ,
  true,
  false,
  List,
  [],
  bytes_eq,
  codes,
  Option,
  Some,
  None,
  option_and_then,
  ok_or,
  Result,
  Ok,
  if◌then◌else◌,
}
use Rattle.serde_json.specs.Data.{Data}
use Rattle.serde_json.specs.Find.{as_str, as_bool}
use Rattle.json_reading.specs.Reading.{field_by, field_or, list_by, nullable_by, object_by}
use Rattle.swc_loader.specs.declared.target.TargetEnv.{TargetEnv}
use Rattle.swc_loader.specs.declared.target.TargetEnv.TheVariants.{Browser, Node}
use Rattle.document_core.specs.Cause.{◌>>=◌}
use Rattle.document_core.specs.Given.{file_of, request_of}
use Rattle.document_core.specs.Mapping.{mapping_of}
use Rattle.document_core.specs.declared.cause.Cause.{Cause}
use Rattle.document_core.specs.declared.cause.Cause.TheVariants.{BadField}
use Rattle.document_core.specs.declared.cause.Field.{Field}
use Rattle.document_core.specs.declared.cause.Field.TheVariants as field
use Rattle.document_core.specs.declared.fields.Document.{Document}
use Rattle.document_core.specs.declared.fields.GivenProject.{GivenProject}
use Rattle.document_core.specs.declared.fields.GivenSettings.{GivenSettings}

abbrev pub target_named : List ℕ → Option TargetEnv
target_named name =
    if bytes_eq name (codes "browser") then Some Browser
    else if bytes_eq name (codes "node") then Some Node
    else None

-- for what modules are resolved
abbrev pub target_of : Data → Option TargetEnv
target_of d = option_and_then target_named (as_str d)

-- a field that must be readable
abbrev pub required : {X : Type 0} → Field → Option X → Result X Cause
required f o = ok_or o (BadField f)

-- the settings that a JSON value gives, with the text of its lock beside them, or the first cause against them
unfoldable pub settings_of : Data → Result (GivenSettings × Option (List ℕ)) Cause
settings_of d = do
  cwd ← required field.Cwd (field_by (codes "cwd") as_str d)
  target ← required field.Target (field_or (codes "target") Browser target_of d)
  preserve_symlinks ← required field.PreserveSymlinks (field_or (codes "preserve_symlinks") false as_bool d)
  node_modules ← required field.NodeModules (field_or (codes "node_modules") true as_bool d)
  alias ← required field.Alias (field_or (codes "alias") [] (object_by as_str) d)
  ts ← required field.Ts (field_or (codes "ts") None (nullable_by mapping_of) d)
  lock ← required field.Lock (field_or (codes "lock") None (nullable_by as_str) d)
  conditions ← required field.Conditions (field_or (codes "conditions") None (nullable_by (list_by as_str)) d)
  Ok (
    record {
      cwd = cwd;
      target = target;
      preserve_symlinks = preserve_symlinks;
      node_modules = node_modules;
      alias = alias;
      ts = ts;
      conditions = conditions;
    },
    lock,
  )

-- the project that a JSON value gives, or the first cause against its fields
unfoldable pub project_fields_of : Data → Result GivenProject Cause
project_fields_of d = do
  given ← settings_of d
  files ← required field.Files (field_by (codes "files") (list_by file_of) d)
  Ok (record { settings = given.0; lock = given.1; files = files })

-- the document that a JSON value gives, or the first cause against its fields
unfoldable pub fields_of : Data → Result Document Cause
fields_of d = do
  given ← project_fields_of d
  requests ← required field.Requests (field_by (codes "requests") (list_by request_of) d)
  Ok (record { settings = given.settings; lock = given.lock; files = given.files; requests = requests })
