-- The line of a document that is refused.
use Rattle.std.specs.Prelude.{ℕ, List, [], ◌∷◌, ◌++◌, codes, decimal, Some, None}
use Rattle.json.specs.Print.{quoted}
use Rattle.serde_json.specs.Written.{compact_text}
use Rattle.resolve_stack.specs.declared.project.ProjectError.{ProjectError}
use Rattle.resolve_stack.specs.declared.project.ProjectError.TheVariants.{
  SettingsFault,
  EmptyTargets,
  TwoWildcards,
  ExactNeedsOne,
  LockParser,
  NoMemory,
}
use Rattle.report_core.specs.Verdicts.{cause_name}
use Rattle.trail_texts.specs.TrailTexts.{question_value}
use Rattle.document_core.specs.Cause.{name_of}
use Rattle.document_core.specs.declared.cause.Cause.{Cause}
use Rattle.document_core.specs.declared.cause.Cause.TheVariants as cause

-- why settings make no project: patterns are told by their number, and of a lock only that it is none. No document is
-- refused for want of memory
abbrev pub project_cause : ProjectError → List ℕ
project_cause (SettingsFault field) = codes "SettingsFault " ++ field
project_cause (EmptyTargets at) = codes "EmptyTargets " ++ decimal at
project_cause (TwoWildcards at) = codes "TwoWildcards " ++ decimal at
project_cause (ExactNeedsOne at) = codes "ExactNeedsOne " ++ decimal at
project_cause (LockParser place cause) = codes "LockParser"
project_cause NoMemory = codes "NoMemory"

-- a cause, with its texts and questions as JSON
abbrev pub cause_text : Cause → List ℕ
cause_text cause.NotJson = codes "not-json"
cause_text (cause.BadField field) = codes "bad-field " ++ name_of field
cause_text (cause.BadTree path None) = codes "bad-tree " ++ quoted path
cause_text (cause.BadTree path (Some other)) = codes "bad-tree " ++ quoted path ++ 32 ∷ quoted other
cause_text (cause.BadBundle line) = codes "bad-bundle " ++ decimal line
cause_text (cause.BadProject e) = codes "bad-project " ++ project_cause e
cause_text (cause.NotRecorded request question) =
    codes "not-recorded " ++ decimal request ++ 32 ∷ compact_text (question_value question)
cause_text cause.NoLock = codes "no-lock"
cause_text (cause.Hydration why) = codes "hydration " ++ cause_name why

-- the line of a refused document
unfoldable pub cause_line : Cause → List ℕ
cause_line cause = codes "refused: " ++ cause_text cause ++ 10 ∷ []
