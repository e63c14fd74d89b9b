-- Laws of import graphs, for all trees, projects and entries.
use Rattle.std.specs.Prelude.{◌≡◌, ◌<◌, ◌↔◌, ℕ, IsTrue, List, [], ◌∷◌, length, bytes_eq}
use Rattle.std.specs.List.{IsDistinct}
use Rattle.std.specs.FinMap.{keys}
use Rattle.tree_core.specs.Tree.{Files}
use Rattle.resolve_stack.specs.Settings.{ProjectSettings}
use Rattle.import_graph.specs.Graph.{files_reached, first_files, leads_to}
use Rattle.import_graph.specs.Levels.{IsWalk, among, level_at}

-- a file is reached exactly where a walk along edges leads to it from an entry that is a file
abbrev pub ReachedByWalks : Type 0
ReachedByWalks =
    (imports : List ℕ → List (List ℕ)) (t : Files) (project : ProjectSettings) (entries : List (List ℕ)) (file : List ℕ)
    →
    IsTrue (among file (files_reached imports t project entries))
    ↔ ((walk : List (List ℕ)) × IsWalk (leads_to imports t project) (first_files t entries) (file ∷ walk))

-- no file is reached twice
abbrev pub ReachedOnce : Type 0
ReachedOnce = (imports : List ℕ → List (List ℕ)) (t : Files) (project : ProjectSettings) (entries : List (List ℕ)) →
    IsDistinct bytes_eq (files_reached imports t project entries)

-- a level whose number is above the count of the tree's files is empty
abbrev pub LevelsEnd : Type 0
LevelsEnd =
    (imports : List ℕ → List (List ℕ)) (t : Files) (project : ProjectSettings) (entries : List (List ℕ)) (k : ℕ) →
    length (keys t) < k → (level_at (leads_to imports t project) (first_files t entries) k).files ≡ []
