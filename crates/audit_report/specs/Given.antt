-- What an audit document gives: a tree, a project, and the path of a manifest.
-- A `do` here is over results: it goes on with what a step gives, and ends by the first error.
use Rattle.std.specs.Prelude.{ℕ, List, codes, Option, Some, None, option_and_then, if◌then◌else◌, Result, Ok}
use Rattle.std.specs.FinMap as finite
use Rattle.serde_json.specs.Data.{Data}
use Rattle.serde_json.specs.Find.{as_str}
use Rattle.json_reading.specs.Reading.{field_by}
use Rattle.sugar_path.specs.Path.{Path, path_in}
use Rattle.tree_core.specs.Tree.{Files, is_file_path}
use Rattle.resolve_stack.specs.Settings.{ProjectSettings}
use Rattle.document_core.specs.Cause.{◌>>=◌}
use Rattle.document_core.specs.Document.{project_in, put_files, settings_in}
use Rattle.document_core.specs.Fields.{project_fields_of, required}
use Rattle.document_core.specs.Json.{json_value}
use Rattle.document_core.specs.declared.cause.Cause.{Cause}
use Rattle.document_core.specs.declared.cause.Field.TheVariants.{Manifest}
use Rattle.audit_report.specs.declared.document.AuditDocument.{AuditDocument}

abbrev pub if_file_path : List ℕ → Option (List ℕ)
if_file_path text = if is_file_path text then Some text else None

-- a text that is a clean absolute path other than `/`
abbrev pub file_path_of : Data → Option (List ℕ)
file_path_of d = option_and_then if_file_path (as_str d)

-- the audit document that a JSON value gives, or the first cause against its fields
unfoldable pub fields_of : Data → Result AuditDocument Cause
fields_of d = do
  project ← project_fields_of d
  manifest ← required Manifest (field_by (codes "manifest") file_path_of d)
  Ok (record { project = project; manifest = manifest })

-- the fields of an audit document, or the first cause against them
unfoldable pub fields_in : List ℕ → Result AuditDocument Cause
fields_in bytes = do
  value ← json_value bytes
  fields_of value

-- what is asked: an audit of a tree's manifest in a project
pub record Given : Type 0 where
  pub files : Files
  pub project : ProjectSettings
  pub manifest : Path

-- what an audit document asks, or the first cause against it
unfoldable pub audit_document : List ℕ → Result Given Cause
audit_document bytes = do
  fields ← fields_in bytes
  files ← put_files finite.empty fields.project.files
  project ← project_in (settings_in fields.project.settings fields.project.lock)
  Ok (record { files = files; project = project; manifest = path_in fields.manifest })
