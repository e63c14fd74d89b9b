-- Graph sessions: what contracts see of them, and what a call that asks for the graph leaves.
use Rattle.std.specs.Prelude.{◌≡◌, ◌≤◌, ℕ, not, IsSome, List, [], ◌∷◌, All, length, map, position, Option, option_map}
use Rattle.std.specs.List.{flat_map}
use Rattle.tree_core.specs.Tree.{is_file_path}
use Rattle.swc_loader.specs.declared.resolution.FileName.{FileName}
use Rattle.swc_loader.specs.declared.resolution.FileName.TheVariants.{Real}
use Rattle.session_core.specs.declared.latest.Entry.{Entry}
use Rattle.session_core.specs.Entries.{kept_for}
use Rattle.session_core.specs.Session.{Session, after_ask, outcome_on}
use Rattle.import_graph.specs.declared.graph.Edge.{Edge}
use Rattle.import_graph.specs.declared.graph.Graph.{Graph}
use Rattle.import_graph.specs.declared.graph.Node.{Node}
use Rattle.import_graph.specs.declared.graph_error.GraphError.{GraphError}
use Rattle.import_graph.specs.declared.graph_error.GraphError.TheVariants.{UncleanEntry}
use Rattle.import_graph.specs.Graph.{graph_on}

-- a graph session: a session, and the entries of its graphs
pub record GraphState : Type 0 where
  pub session : Session
  pub entries : List (List ℕ)

-- the graph from its entries, on its tree as it is
abbrev pub graph_of : (List ℕ → List (List ℕ)) → GraphState → Graph
graph_of imports s = graph_on imports s.session.tree.files s.session.project s.entries

-- why entries are refused: the first one that is no path of a file
abbrev pub entry_refusal : List (List ℕ) → Option GraphError
entry_refusal entries = option_map UncleanEntry (position (λ entry. not (is_file_path entry)) entries)

-- the requests of a node's edges
abbrev pub requests_at : Node → List (FileName × List ℕ)
requests_at node = map (λ e. (Real node.file, e.specifier)) node.edges

-- the requests of a graph's edges, in order
abbrev pub requests_of : Graph → List (FileName × List ℕ)
requests_of g = flat_map requests_at g.nodes

-- an outcome is kept for each of some requests
abbrev pub AreKept : List Entry → List (FileName × List ℕ) → Type 0
AreKept kept requests = All (λ r. IsSome (kept_for r.0 r.1 kept)) requests

-- A session that may keep other outcomes, and whose tree may have been asked more. All else is the same.
pub record IsSameBut (old new : Session) : Type 0 where
  pub project : new.project ≡ old.project
  pub files : new.tree.files ≡ old.tree.files
  pub capacity : new.capacity ≡ old.capacity

-- a session after requests were asked in order
abbrev pub after_asks : Session → List (FileName × List ℕ) → Session
after_asks s [] = s
after_asks s (r ∷ requests) = after_asks (after_ask s r.0 r.1) requests

-- What a call that answers a graph leaves: what is kept once its edges are asked in order. So where there is room for
-- the outcomes of all its edges, all are kept, and where all were kept, no question is put.
pub record IsAsked (g : Graph) (old new : Session) : Type 0 where
  pub same : IsSameBut old new
  pub left : new.kept ≡ (after_asks old (requests_of g)).kept
  pub kept : length (requests_of g) ≤ old.capacity → AreKept new.kept (requests_of g)
  pub unasked : AreKept old.kept (requests_of g) → new.tree.questions ≡ old.tree.questions

-- a graph session in which a session has another state
abbrev pub with_session : GraphState → Session → GraphState
with_session s session = record s { session = session }

-- an import that an importer asks for in a session, with its verdict
abbrev pub edge_by : Session → FileName → List ℕ → Edge
edge_by s importer text =
    record { specifier = text; verdict = (outcome_on s.tree.files s.project importer text).verdict }

-- What a call that answers the graph leaves: the entries, and the session but for the outcomes of the graph's edges.
pub record LeavesAsked (imports : List ℕ → List (List ℕ)) (old new : GraphState) : Type 0 where
  pub entries : new.entries ≡ old.entries
  pub asked : IsAsked (graph_of imports old) old.session new.session

-- What a call that finds no memory leaves.
pub record LeavesSame (old new : GraphState) : Type 0 where
  pub entries : new.entries ≡ old.entries
  pub same : IsSameBut old.session new.session
