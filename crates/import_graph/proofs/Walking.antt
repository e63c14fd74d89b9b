-- A walk that is under way: its nodes, the files that were seen, and the session that was asked.
use Rattle.std.proofs.Common.{
  ◌≡◌,
  ℕ,
  bytes_eq,
  List,
  [],
  ◌∷◌,
  ◌++◌,
  length,
  map,
  Some,
  None,
  refl,
  sym,
  ap,
  ◌∙◌,
  subst,
  append-nil,
}
use Rattle.std.specs.Prelude.{slice_get}
use Rattle.std.specs.FinMap as finite
use Rattle.std.specs.List.{flat_map, IsDistinct}
use Rattle.std.proofs.lemmas.List.{length-map, map-append}
use Rattle.std.proofs.lemmas.List.Concat.{flat_map-append}
use Rattle.indexmap.specs.IndexSet.{insert_all}
use Rattle.tree_core.specs.Tree.{Files}
use Rattle.resolve_stack.specs.Settings.{ProjectSettings}
use Rattle.session_core.specs.Session.{Session}
use Rattle.import_graph.specs.declared.graph.Edge.{Edge}
use Rattle.import_graph.specs.declared.graph.Graph.{Graph}
use Rattle.import_graph.specs.declared.graph.Node.{Node}
use Rattle.import_graph.specs.Graph.{
  edges_on,
  files_reached,
  first_files,
  found_by,
  graph_on,
  leads_to,
  missing_from,
  node_on,
}
use Rattle.import_graph.specs.GraphState.{IsSameBut, after_asks, requests_at}
use Rattle.import_graph.specs.Walked.{IsReached}
use Rattle.import_graph.proofs.Asked.{asks-append, same-asks}
use Rattle.import_graph.proofs.Graphs.{leads-nowhere}
use Rattle.import_graph.proofs.Queues.{IsQueue, queue-begins, queue-empty, queue-ends, queue-goes-on, queue-next}

abbrev pub files_in : List Node → List (List ℕ)
files_in nodes = map (λ n. n.file) nodes

-- The nodes are those of the files that were taken from the queue, and their edges are what the session was asked for.
pub record IsWalking (imports : List ℕ → List (List ℕ)) (s : Session) (first : List (List ℕ)) (nodes : List Node)
    (seen : List (List ℕ)) (now : Session) : Type 0 where
  pub queue : IsQueue (leads_to imports s.tree.files s.project) first (files_in nodes) seen
  pub right : nodes ≡ map (node_on imports s.tree.files s.project) (files_in nodes)
  pub asked : now ≡ after_asks s (flat_map requests_at nodes)

pub walking-begins : (imports : List ℕ → List (List ℕ)) (s : Session) (first : List (List ℕ))
    → IsWalking imports s first [] first s
walking-begins imports s first =
    record { queue = queue-begins (leads_to imports s.tree.files s.project) first; right = refl; asked = refl }

-- a node and what it was asked for
pub node-is : (imports : List ℕ → List (List ℕ)) (t : Files) (project : ProjectSettings) (file name : List ℕ)
    (edges : List Edge) → name ≡ file → edges ≡ edges_on imports t project file
    → record { file = name; edges = edges } ≡ node_on imports t project file
node-is imports t project file name edges same is =
    let with_name : List ℕ → Node = λ n. record { file = n; edges = edges } in
    let with_edges : List Edge → Node = λ es. record { file = file; edges = es } in
    ap with_name same ∙ ap with_edges is

-- the session stays the same while it is asked
pub walking-same : (imports : List ℕ → List (List ℕ)) (s : Session) (first : List (List ℕ)) (nodes : List Node)
    (seen : List (List ℕ)) (now : Session) → IsWalking imports s first nodes seen now → IsSameBut s now
walking-same imports s first nodes seen now w =
    subst (IsSameBut s) (sym w.asked) (same-asks s (flat_map requests_at nodes))

-- one more node
pub walking-goes-on : (imports : List ℕ → List (List ℕ)) (s : Session) (first : List (List ℕ)) (nodes : List Node)
    (seen : List (List ℕ)) (now : Session) (file : List ℕ) (node : Node) (then : Session) (seen_then : List (List ℕ))
    → IsWalking imports s first nodes seen now → slice_get seen (length nodes) ≡ Some file
    → node ≡ node_on imports now.tree.files now.project file → then ≡ after_asks now (requests_at node)
    → seen_then ≡ insert_all bytes_eq seen (found_by node.edges)
    → IsWalking imports s first (nodes ++ node ∷ []) seen_then then
walking-goes-on imports s first nodes seen now file node then seen_then w there is asked sees =
    let same = walking-same imports s first nodes seen now w in
    let leads : List ℕ → List (List ℕ) = leads_to imports s.tree.files s.project in
    let made : node ≡ node_on imports s.tree.files s.project file = is
    ∙ ap (λ t. node_on imports t now.project file) same.files
    ∙ ap (λ p. node_on imports s.tree.files p file) same.project in
    let file_is : node.file ≡ file = ap (λ (n : Node). n.file) made in
    let taken : files_in (nodes ++ node ∷ []) ≡ files_in nodes ++ file ∷ [] =
    map-append (λ n. n.file) nodes (node ∷ []) ∙ ap (λ f. files_in nodes ++ f ∷ []) file_is in
    let next = queue-next leads first (files_in nodes) seen file w.queue
    (ap (slice_get seen) (length-map nodes (λ n. n.file)) ∙ there) in
    let seen_is : seen_then ≡ insert_all bytes_eq seen (leads file) =
    sees ∙ ap (λ (n : Node). insert_all bytes_eq seen (found_by n.edges)) made in
    let Q : List (List ℕ) → List (List ℕ) → Type 0 = IsQueue leads first in
    let queue : Q (files_in nodes ++ file ∷ []) (insert_all bytes_eq seen (leads file)) =
    queue-goes-on leads first (files_in nodes) seen next.rest file w.queue next.next in
    record {
      queue = subst (λ (xs : List (List ℕ)). Q xs seen_then) (sym taken)
          (subst (Q (files_in nodes ++ file ∷ [])) (sym seen_is) queue);
      right =
          ap (λ ns. ns ++ node ∷ []) w.right ∙ ap (λ n. map (node_on imports s.tree.files s.project) (files_in nodes)
          ++ n ∷ []) made
          ∙ sym (map-append (node_on imports s.tree.files s.project) (files_in nodes) (file ∷ []))
          ∙ ap (map (node_on imports s.tree.files s.project)) (sym taken);
      asked =
          asked ∙ ap (λ u. after_asks u (requests_at node)) w.asked
          ∙ sym (asks-append s (flat_map requests_at nodes) (requests_at node))
          ∙ ap (after_asks s) (ap (λ rs. flat_map requests_at nodes ++ rs) (sym (append-nil (requests_at node)))
          ∙ sym (flat_map-append requests_at nodes (node ∷ [])));
    }

-- where nothing waits, all is reached
pub walking-ends : (imports : List ℕ → List (List ℕ)) (s : Session) (first : List (List ℕ)) (nodes : List Node)
    (seen : List (List ℕ)) (now : Session) → IsDistinct bytes_eq first → IsWalking imports s first nodes seen now
    → slice_get seen (length nodes) ≡ None → IsReached imports s first nodes
walking-ends imports s first nodes seen now distinct w none =
    let leads : List ℕ → List (List ℕ) = leads_to imports s.tree.files s.project in
    let end = queue-empty leads first (files_in nodes) seen w.queue
    (ap (slice_get seen) (length-map nodes (λ n. n.file)) ∙ none) in
    w.right ∙ ap (map (node_on imports s.tree.files s.project))
    (queue-ends leads first (finite.keys s.tree.files) (files_in nodes) seen
    (leads-nowhere imports s.tree.files s.project) distinct w.queue end)

-- the graph of what is reached
pub graph-is : (imports : List ℕ → List (List ℕ)) (s : Session) (entries first : List (List ℕ)) (nodes : List Node)
    (missing : List (List ℕ)) → first ≡ first_files s.tree.files entries → IsReached imports s first nodes
    → missing ≡ missing_from s.tree.files entries
    → record { nodes = nodes; missing = missing } ≡ graph_on imports s.tree.files s.project entries
unfolding files_reached
graph-is imports s entries first nodes missing first_is reached missing_is =
    let with_nodes : List Node → Graph = λ ns. record { nodes = ns; missing = missing } in
    let with_missing : List (List ℕ) → Graph =
    λ ms. record {
      nodes = map (node_on imports s.tree.files s.project)
          (files_reached imports s.tree.files s.project entries);
      missing = ms;
    } in
    let whole : nodes ≡ map (node_on imports s.tree.files s.project)
    (files_reached imports s.tree.files s.project entries) =
    subst (λ (fs : List (List ℕ)). IsReached imports s fs nodes) first_is reached in
    ap with_nodes whole ∙ ap with_missing missing_is
