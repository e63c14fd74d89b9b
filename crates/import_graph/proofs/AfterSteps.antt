-- The graph after any list of steps.
use Rattle.std.proofs.Common.{◌≡◌, ℕ, Bool, true, false, List, [], ◌∷◌, Option, Some, None, cond, refl, ap, ◌∙◌}
use Rattle.std.specs.FinMap as finite
use Rattle.tree_core.specs.Memory.{refusal}
use Rattle.tree_core.specs.Tree.{Files, is_file}
use Rattle.tree_core.specs.declared.memory.PutError.{PutError}
use Rattle.tree_core.specs.declared.tree.TreeFile.{TreeFile}
use Rattle.session_core.specs.Session.{Session, after_remove, put_unless}
use Rattle.import_graph.specs.Graph.{graph_on}
use Rattle.import_graph.specs.GraphState.{GraphState, graph_of, requests_of}
use Rattle.import_graph.specs.GraphSteps.{
  Step,
  Put,
  Remove,
  Ask,
  GraphAfterSteps,
  after_step,
  after_steps,
  files_after,
  files_after_all,
  files_unless,
}
use Rattle.import_graph.proofs.Asked.{same-asks}

put-files : (s : Session) (path : List ℕ) (file : TreeFile) (o : Option PutError)
    → (put_unless s path file o).tree.files ≡ files_unless s.tree.files path file o
put-files s path file None = refl
put-files s path file (Some error) = refl

put-project : (s : Session) (path : List ℕ) (file : TreeFile) (o : Option PutError)
    → (put_unless s path file o).project ≡ s.project
put-project s path file None = refl
put-project s path file (Some error) = refl

removed-files : (s : Session) (path : List ℕ) (b : Bool)
    → (cond b (after_remove s path) s).tree.files ≡ cond b (finite.remove s.tree.files path) s.tree.files
removed-files s path true = refl
removed-files s path false = refl

removed-project : (s : Session) (path : List ℕ) (b : Bool) → (cond b (after_remove s path) s).project ≡ s.project
removed-project s path true = refl
removed-project s path false = refl

-- what graphs hang on after a step
record IsAfter (imports : List ℕ → List (List ℕ)) (s : GraphState) (step : Step) : Type 0 where
  files : (after_step imports s step).session.tree.files ≡ files_after s.session.tree.files step
  project : (after_step imports s step).session.project ≡ s.session.project
  entries : (after_step imports s step).entries ≡ s.entries

stepped : (imports : List ℕ → List (List ℕ)) (s : GraphState) (step : Step) → IsAfter imports s step
stepped imports s (Put path file) =
    let o = refusal s.session.tree.files path file.canonical in
    record { files = put-files s.session path file o; project = put-project s.session path file o; entries = refl }
stepped imports s (Remove path) =
    let b = is_file s.session.tree.files path in
    record { files = removed-files s.session path b; project = removed-project s.session path b; entries = refl }
stepped imports s Ask =
    let same = same-asks s.session (requests_of (graph_of imports s)) in
    record { files = same.files; project = same.project; entries = refl }

pub graph_after_steps : GraphAfterSteps
graph_after_steps = all
  where
    all : (imports : List ℕ → List (List ℕ)) (s : GraphState) (steps : List Step)
        → graph_of imports (after_steps imports s steps) ≡ graph_on imports (files_after_all s.session.tree.files steps)
        s.session.project s.entries
    all imports s [] = refl
    all imports s (step ∷ steps) =
        let u = after_step imports s step in
        let is = stepped imports s step in
        all imports u steps
        ∙ ap (λ t. graph_on imports (files_after_all t steps) u.session.project u.entries) is.files
        ∙ ap (λ p. graph_on imports (files_after_all (files_after s.session.tree.files step) steps) p u.entries)
        is.project
        ∙ ap (λ es. graph_on imports (files_after_all (files_after s.session.tree.files step) steps) s.session.project
        es) is.entries
