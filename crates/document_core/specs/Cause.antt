-- The causes against a document, and what a call that may find one answers.
use Rattle.std.specs.Prelude.{◌≡◌, ℕ, List, codes, Result, Ok, Err}
pub use Rattle.sugar_path.specs.Results.{◌>>=◌}
use Rattle.resolve_stack.specs.declared.project.ProjectError.{ProjectError}
use Rattle.resolve_stack.specs.declared.project.ProjectError.TheVariants as project
use Rattle.document_core.specs.declared.cause.Field.{Field}
use Rattle.document_core.specs.declared.cause.Field.TheVariants.{
  Cwd,
  Target,
  PreserveSymlinks,
  NodeModules,
  Alias,
  Ts,
  Lock,
  Conditions,
  Files,
  Requests,
  Entries,
  Capacity,
  Steps,
  Scanner,
  Manifest,
  Bundle,
}
use Rattle.document_core.specs.declared.cause.Cause.{Cause}
use Rattle.document_core.specs.declared.cause.Cause.TheVariants.{BadProject}
use Rattle.document_core.specs.declared.cause.DocumentError.{DocumentError}
use Rattle.document_core.specs.declared.cause.DocumentError.TheVariants.{Refused, NoMemory}

-- a field's key in a document
abbrev pub name_of : Field → List ℕ
name_of Cwd = codes "cwd"
name_of Target = codes "target"
name_of PreserveSymlinks = codes "preserve_symlinks"
name_of NodeModules = codes "node_modules"
name_of Alias = codes "alias"
name_of Ts = codes "ts"
name_of Lock = codes "lock"
name_of Conditions = codes "conditions"
name_of Files = codes "files"
name_of Requests = codes "requests"
name_of Entries = codes "entries"
name_of Capacity = codes "capacity"
name_of Steps = codes "steps"
name_of Scanner = codes "scanner"
name_of Manifest = codes "manifest"
name_of Bundle = codes "bundle"

-- a call meets what is wanted of it: it answers that, or want of memory
abbrev pub Meets : {A : Type 0} → Result A DocumentError → Result A Cause → Type 0
Meets (Ok a) wanted = wanted ≡ Ok a
Meets (Err (Refused cause)) wanted = wanted ≡ Err cause
Meets (Err NoMemory) wanted = Unit {0}

-- the cause that settings make no project is the document's
abbrev pub error_of : ProjectError → DocumentError
error_of (project.SettingsFault field) = Refused (BadProject (project.SettingsFault field))
error_of (project.EmptyTargets at) = Refused (BadProject (project.EmptyTargets at))
error_of (project.TwoWildcards at) = Refused (BadProject (project.TwoWildcards at))
error_of (project.ExactNeedsOne at) = Refused (BadProject (project.ExactNeedsOne at))
error_of (project.LockParser place cause) = Refused (BadProject (project.LockParser place cause))
error_of project.NoMemory = NoMemory
