-- Projects of a document.
use Rattle.std.proofs.Common.{◌≡◌, Result, Ok, Err, IsErrAnd, refl}
use Rattle.tree_core.specs.Asks.{widened}
use Rattle.resolve_stack.specs.Settings.{ProjectSettings, IsCauseOf}
use Rattle.resolve_stack.specs.declared.project.ProjectError.{ProjectError}
use Rattle.resolve_stack.specs.declared.project.ProjectError.TheVariants.{
  SettingsFault,
  EmptyTargets,
  TwoWildcards,
  ExactNeedsOne,
  LockParser,
  NoMemory,
}
use Rattle.document_core.specs.Cause.{Meets, error_of}
use Rattle.document_core.specs.declared.cause.Cause.TheVariants.{BadProject}
use Rattle.document_core.specs.declared.cause.DocumentError.{DocumentError}
use Rattle.document_core.specs.declared.cause.DocumentError.TheVariants.{Refused}

-- what project there is, or the cause against the settings, is the document's
pub project_made : (made : Result ProjectSettings ProjectError) (project : ProjectSettings) → made ≡ Ok project
    → widened BadProject made ≡ Ok project
project_made made project is = rw is refl

pub project_stops : (e : ProjectError) (made : Result ProjectSettings ProjectError)
    (result : Result ProjectSettings DocumentError) → IsErrAnd result (λ raised. raised ≡ error_of e) → IsCauseOf e made
    → Meets result (widened BadProject made)
project_stops e made (Ok project) raised is = elim raised [ ]
project_stops e made (Err refused) raised is = rw raised (by_cause e is)
  where
    by_cause : (cause : ProjectError) → IsCauseOf cause made
        → Meets {A = ProjectSettings} (Err (error_of cause)) (widened BadProject made)
    by_cause (SettingsFault field) told = rw told refl
    by_cause (EmptyTargets at) told = rw told refl
    by_cause (TwoWildcards at) told = rw told refl
    by_cause (ExactNeedsOne at) told = rw told refl
    by_cause (LockParser place cause) told = rw told refl
    by_cause NoMemory told = tt

-- any cause but want of memory is the document's
pub error_refused : (e : ProjectError) → (e ≡ NoMemory → ⊥) → Refused (BadProject e) ≡ error_of e
error_refused (SettingsFault field) other = refl
error_refused (EmptyTargets at) other = refl
error_refused (TwoWildcards at) other = refl
error_refused (ExactNeedsOne at) other = refl
error_refused (LockParser place cause) other = refl
error_refused NoMemory other = absurd (other refl)
