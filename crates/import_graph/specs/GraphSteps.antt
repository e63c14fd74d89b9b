-- Steps over a graph session, what each leaves, and what the graph is after any list of them.
use Rattle.std.specs.Prelude.{◌≡◌, ℕ, List, [], ◌∷◌, if◌then◌else◌, Option, Some, None}
use Rattle.std.specs.FinMap as finite
use Rattle.tree_core.specs.Memory.{refusal, with_file}
use Rattle.tree_core.specs.Tree.{Files, is_file}
use Rattle.tree_core.specs.declared.memory.PutError.{PutError}
use Rattle.tree_core.specs.declared.tree.TreeFile.{TreeFile}
use Rattle.session_core.specs.Session as session
use Rattle.import_graph.specs.Graph.{graph_on}
use Rattle.import_graph.specs.GraphState.{GraphState, after_asks, graph_of, requests_of, with_session}

-- a file that is put, the path of one that is taken out, or the graph is asked for
pub data Step : Type 0 where
  Put : List ℕ → TreeFile → Step
  Remove : List ℕ → Step
  Ask : Step

-- the graph session after a step, by what bytes import: edits are those of the session, and where the graph is asked
-- for, each of its edges is, in order
abbrev pub after_step : (List ℕ → List (List ℕ)) → GraphState → Step → GraphState
after_step imports s (Put path file) = with_session s (session.after_step s.session (session.Put path file))
after_step imports s (Remove path) = with_session s (session.after_step s.session (session.Remove path))
after_step imports s Ask = with_session s (after_asks s.session (requests_of (graph_of imports s)))

abbrev pub after_steps : (List ℕ → List (List ℕ)) → GraphState → List Step → GraphState
after_steps imports s [] = s
after_steps imports s (step ∷ steps) = after_steps imports (after_step imports s step) steps

-- the files after a put: one that is refused changes nothing
abbrev pub files_unless : Files → List ℕ → TreeFile → Option PutError → Files
files_unless t path file None = with_file t path file
files_unless t path file (Some error) = t

-- the files after a step
abbrev pub files_after : Files → Step → Files
files_after t (Put path file) = files_unless t path file (refusal t path file.canonical)
files_after t (Remove path) = if is_file t path then finite.remove t path else t
files_after t Ask = t

abbrev pub files_after_all : Files → List Step → Files
files_after_all t [] = t
files_after_all t (step ∷ steps) = files_after_all (files_after t step) steps

-- after any list of steps the graph is the one on the files after the edits, whatever was asked before
abbrev pub GraphAfterSteps : Type 0
GraphAfterSteps =
    (imports : List ℕ → List (List ℕ)) (s : GraphState) (steps : List Step) →
    graph_of imports (after_steps imports s steps)
    ≡ graph_on imports (files_after_all s.session.tree.files steps) s.session.project s.entries
