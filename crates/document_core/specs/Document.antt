-- What a document gives, or the first cause against it.
-- A `do` here is over results: it goes on with what a step gives, and ends by the first error.
use Rattle.std.specs.Prelude.{ℕ, List, [], ◌∷◌, Option, Some, None, Result, Ok, Err}
use Rattle.std.specs.FinMap as finite
use Rattle.tree_core.specs.Asks.{widened}
use Rattle.tree_core.specs.Tree.{Files}
use Rattle.tree_core.specs.Memory.{refusal, with_file}
use Rattle.resolve_stack.specs.Settings.{GivenSettings, ProjectSettings, project_of}
use Rattle.tree_core.specs.declared.memory.PutError.{PutError}
use Rattle.tree_core.specs.declared.memory.PutError.TheVariants.{Unclean, Conflict, NoMemory}
use Rattle.document_core.specs.Cause.{◌>>=◌}
use Rattle.document_core.specs.Fields.{fields_of}
use Rattle.document_core.specs.Json.{json_value}
use Rattle.document_core.specs.declared.cause.Cause.{Cause}
use Rattle.document_core.specs.declared.cause.Cause.TheVariants.{BadProject, BadTree}
use Rattle.document_core.specs.declared.fields.Document.{Document}
use Rattle.document_core.specs.declared.fields.GivenSettings.{GivenSettings as Fields}
use Rattle.document_core.specs.declared.given.GivenFile.{GivenFile}
use Rattle.document_core.specs.declared.given.GivenRequest.{GivenRequest}

-- the other path of a conflict
abbrev pub other_path : PutError → Option (List ℕ)
other_path Unclean = None
other_path (Conflict other) = Some other
other_path NoMemory = None

abbrev pub put_unless : Option PutError → Files → GivenFile → Result Files Cause
put_unless None t file =
    Ok (with_file t file.path (record { content = file.content; canonical = file.canonical }))
put_unless (Some error) t file = Err (BadTree file.path (other_path error))

-- a tree with one file put in, or the cause against that file
unfoldable pub put_file : Files → GivenFile → Result Files Cause
put_file t file = put_unless (refusal t file.path file.canonical) t file

-- a tree with files put in, in order
abbrev pub put_files : Files → List GivenFile → Result Files Cause
put_files t [] = Ok t
put_files t (file ∷ files) = do
  more ← put_file t file
  put_files more files

-- the settings of a document, with its lock
abbrev pub settings_in : Fields → Option (List ℕ) → GivenSettings
settings_in fields lock = record {
  cwd = fields.cwd;
  target = fields.target;
  preserve_symlinks = fields.preserve_symlinks;
  node_modules = fields.node_modules;
  alias = fields.alias;
  ts = fields.ts;
  lock = lock;
  conditions = fields.conditions;
}

-- the project of settings, or the first cause against them
abbrev pub project_in : GivenSettings → Result ProjectSettings Cause
project_in settings = widened BadProject (project_of settings)

-- what is asked: a tree, a project and requests
pub record Given : Type 0 where
  pub files : Files
  pub project : ProjectSettings
  pub requests : List GivenRequest

-- the fields of a document, or the first cause against them
unfoldable pub fields_in : List ℕ → Result Document Cause
fields_in bytes = do
  value ← json_value bytes
  fields_of value

-- what a document asks, or the first cause against it
unfoldable pub document : List ℕ → Result Given Cause
document bytes = do
  fields ← fields_in bytes
  files ← put_files finite.empty fields.files
  project ← project_in (settings_in fields.settings fields.lock)
  Ok (record { files = files; project = project; requests = fields.requests })
