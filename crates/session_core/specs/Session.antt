-- A session: a project, a tree, and the latest outcomes on that tree.
use Rattle.std.specs.Prelude.{◌≡◌, ◌<◌, ◌≤◌, ℕ, List, [], ◌∷◌, length, if◌then◌else◌, Option, Some, None, All}
use Rattle.std.specs.List.{IsDistinct}
use Rattle.std.specs.FinMap as finite
use Rattle.tree_core.specs.declared.tree.TreeFile.{TreeFile}
use Rattle.tree_core.specs.Tree.{Files, put_times, is_file}
use Rattle.tree_core.specs.Memory.{Memory, refusal, with_file}
use Rattle.tree_core.specs.declared.memory.PutError.{PutError}
use Rattle.swc_loader.specs.declared.resolution.FileName.{FileName}
use Rattle.resolve_stack.specs.declared.verdict.Outcome.{Outcome}
use Rattle.resolve_stack.specs.Settings.{ProjectSettings}
use Rattle.resolve_stack.specs.Request.{asked_for}
use Rattle.resolve_stack.specs.Outcomes.{request_outcome}
use Rattle.session_core.specs.declared.latest.Entry.{Entry}
use Rattle.session_core.specs.Entries.{same_request, kept_for, moved_first, put_first, untouched}

pub record Session : Type 0 where
  pub project : ProjectSettings
  pub tree : Memory
  -- how many outcomes there may be
  pub capacity : ℕ
  pub kept : List Entry

-- the outcome of a request on a tree
abbrev pub outcome_on : Files → ProjectSettings → FileName → List ℕ → Outcome
outcome_on t project importer specifier = request_outcome t project (asked_for importer specifier)

-- that outcome with its request
abbrev pub entry_on : Files → ProjectSettings → FileName → List ℕ → Entry
entry_on t project importer specifier = record {
  importer = importer;
  specifier = specifier;
  outcome = outcome_on t project importer specifier;
}

-- A new outcome is put in front, on a tree that was asked each question of its trail.
abbrev pub computed : Session → Entry → Session
computed s e = record s {
  tree = record s.tree { questions = put_times (length e.outcome.trail) s.tree.questions };
  kept = put_first s.capacity e s.kept;
}

-- what an ask leaves, by the entry that is kept for it: that moves to the front, and the tree isn't asked; else the
-- outcome on the tree is computed
abbrev pub asked_by : Session → FileName → List ℕ → Option Entry → Session
asked_by s importer specifier (Some e) =
    record s { kept = moved_first importer specifier s.kept (Some e) }
asked_by s importer specifier None =
    computed s (entry_on s.tree.files s.project importer specifier)

abbrev pub after_ask : Session → FileName → List ℕ → Session
after_ask s importer specifier = asked_by s importer specifier (kept_for importer specifier s.kept)

-- A file is put, and what that touches is dropped.
abbrev pub after_put : Session → List ℕ → TreeFile → Session
after_put s path file = record s {
  tree = record s.tree { files = with_file s.tree.files path file };
  kept = untouched path s.kept;
}

-- A file is taken out, and what that touches is dropped.
abbrev pub after_remove : Session → List ℕ → Session
after_remove s path = record s {
  tree = record s.tree { files = finite.remove s.tree.files path };
  kept = untouched path s.kept;
}

-- Each outcome that is kept is the request's on the tree as it is now.
abbrev pub IsRight : Session → Type 0
IsRight s =
    All (λ e. e.outcome ≡ outcome_on s.tree.files s.project e.importer e.specifier) s.kept

-- What holds of every session: its outcomes are right, no two are of one request, and there are not too many.
pub record IsSession (s : Session) : Type 0 where
  pub right : IsRight s
  pub apart : IsDistinct same_request s.kept
  pub few : length s.kept ≤ s.capacity
  pub some : 0 < s.capacity

-- an ask, a file that is put, or a path whose file is taken out
pub data Step : Type 0 where
  Ask : FileName → List ℕ → Step
  Put : List ℕ → TreeFile → Step
  Remove : List ℕ → Step

-- a file that is refused changes nothing
abbrev pub put_unless : Session → List ℕ → TreeFile → Option PutError → Session
put_unless s path file None = after_put s path file
put_unless s path file (Some error) = s

abbrev pub after_step : Session → Step → Session
after_step s (Ask importer specifier) = after_ask s importer specifier
after_step s (Put path file) =
    put_unless s path file (refusal s.tree.files path file.canonical)
after_step s (Remove path) = if is_file s.tree.files path then after_remove s path else s

abbrev pub after_steps : Session → List Step → Session
after_steps s [] = s
after_steps s (step ∷ steps) = after_steps (after_step s step) steps
