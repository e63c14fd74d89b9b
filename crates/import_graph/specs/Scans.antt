-- What is kept of files and of graphs. No promise of a public call reads it.
use Rattle.std.specs.Prelude.{◌≡◌, ℕ, IfSome, List, Option, Some}
use Rattle.tree_core.specs.Tree.{Files}
use Rattle.session_core.specs.Session.{Session}
use Rattle.import_graph.specs.declared.graph.Graph.{Graph}
use Rattle.import_graph.specs.Graph.{imported, graph_on}
use Rattle.import_graph.specs.GraphState.{IsAsked}

-- what is kept for a file is what it imports on a tree
abbrev pub AreScans : (List ℕ → List (List ℕ)) → Files → (List ℕ → Option (List (List ℕ))) → Type 0
AreScans imports t kept =
    (file : List ℕ) (texts : List (List ℕ)) → kept file ≡ Some texts → texts ≡ imported imports t file

-- A graph that is kept is the one on a session's tree, and where there is room, its edges' outcomes are kept.
abbrev pub IsLast : (List ℕ → List (List ℕ)) → Session → List (List ℕ) → Option Graph → Type 0
IsLast imports s entries kept =
    IfSome kept (λ g. (g ≡ graph_on imports s.tree.files s.project entries) × IsAsked g s s)
