-- What a walk comes to. No promise of a public call reads it.
use Rattle.std.specs.Prelude.{◌≡◌, ℕ, List, length, map}
use Rattle.std.specs.FinMap.{keys}
use Rattle.session_core.specs.Session.{Session}
use Rattle.import_graph.specs.declared.graph.Node.{Node}
use Rattle.import_graph.specs.Graph.{leads_to, node_on}
use Rattle.import_graph.specs.Levels.{levels_to}

-- nodes of the files that are reached from some, each with its edges
abbrev pub IsReached : (List ℕ → List (List ℕ)) → Session → List (List ℕ) → List Node → Type 0
IsReached imports s first nodes = nodes ≡ map (node_on imports s.tree.files s.project)
    (levels_to (leads_to imports s.tree.files s.project) first (length (keys s.tree.files)))
