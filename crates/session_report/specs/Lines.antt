-- The lines of a session's steps: for each step the compact text of a JSON object.
use Rattle.std.specs.Prelude.{
  ℕ,
  List,
  [],
  ◌∷◌,
  ◌++◌,
  codes,
  Option,
  Some,
  None,
  Result,
  Ok,
  Err,
  count_by,
  if◌then◌else◌,
}
use Rattle.serde_json.specs.Data.{Data, unsigned, null, number, string, object, no_members, member}
use Rattle.serde_json.specs.Written.{compact_text}
use Rattle.tree_core.specs.declared.memory.PutError.{PutError}
use Rattle.tree_core.specs.declared.memory.PutError.TheVariants.{Unclean, Conflict, NoMemory}
use Rattle.tree_core.specs.Memory.{refusal}
use Rattle.tree_core.specs.Tree.{is_file}
use Rattle.report_core.specs.Lines.{verdict_line}
use Rattle.session_core.specs.Entries.{is_touched}
use Rattle.session_core.specs.Session as session
use Rattle.session_core.specs.Session.{Session, outcome_on, after_step}
use Rattle.session_report.specs.declared.step.Step.{Step}
use Rattle.session_report.specs.declared.step.Step.TheVariants.{Ask, Put, Remove}

-- the step that is taken in a session
abbrev pub taken : Step → session.Step
taken (Ask request) = session.Ask request.importer request.specifier
taken (Put file) =
    session.Put file.path (record { content = file.content; canonical = file.canonical })
taken (Remove path) = session.Remove path

-- how many outcomes an edit drops, or that no file has the path
abbrev pub dropped_value : Option ℕ → Data
dropped_value (Some count) = object (member (codes "dropped") (number (unsigned count)) no_members)
dropped_value None = object (member (codes "dropped") null no_members)

-- a file that is refused for its path or its canonical name
abbrev pub unclean_value : List ℕ → Data
unclean_value path = object (member (codes "refused")
    (object (member (codes "kind") (string (codes "Unclean"))
    (member (codes "path") (string path) no_members))) no_members)

-- a file that another one is in the way of
abbrev pub conflict_value : List ℕ → Data
conflict_value other = object (member (codes "refused")
    (object (member (codes "kind") (string (codes "Conflict"))
    (member (codes "other") (string other) no_members))) no_members)

-- the line of a value
unfoldable pub line_of : Data → List ℕ
line_of value = compact_text value ++ 10 ∷ []

-- how many kept outcomes an edit of a path drops
abbrev pub dropped : Session → List ℕ → ℕ
dropped s path = count_by (is_touched path) s.kept

-- what a put answers, where nothing or something is against it
abbrev pub put_answer : Session → List ℕ → Option PutError → Result ℕ PutError
put_answer s path None = Ok (dropped s path)
put_answer s path (Some error) = Err error

-- what a put at a path answered: how many outcomes it drops, or why the file is refused
abbrev pub put_value : List ℕ → Result ℕ PutError → Data
put_value path (Ok count) = dropped_value (Some count)
put_value path (Err Unclean) = unclean_value path
put_value path (Err (Conflict other)) = conflict_value other
put_value path (Err NoMemory) = null

-- the line of a step, by the session before it: of an ask that of the verdict on the tree as it is then
abbrev pub step_line : Session → Step → List ℕ
step_line s (Ask request) =
    verdict_line (outcome_on s.tree.files s.project request.importer request.specifier).verdict
step_line s (Put file) =
    line_of (put_value file.path (put_answer s file.path (refusal s.tree.files file.path file.canonical)))
step_line s (Remove path) =
    line_of (dropped_value (if is_file s.tree.files path then Some (dropped s path) else None))

-- a session with another count of the questions that its tree was asked
abbrev pub counting : Session → ℕ → Session
counting s n = record s { tree = record s.tree { questions = n } }

-- the lines of steps in order
abbrev pub step_lines : Session → List Step → List ℕ
step_lines s [] = []
step_lines s (step ∷ steps) = step_line s step ++ step_lines (after_step s (taken step)) steps
