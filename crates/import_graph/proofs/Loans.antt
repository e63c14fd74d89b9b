-- The graph that is borrowed is the one on the tree, and what asking for it leaves.
use Rattle.std.proofs.Common.{
  ◌≡◌,
  ℕ,
  bytes_eq,
  List,
  [],
  ◌∷◌,
  map,
  Option,
  Some,
  None,
  IfSome,
  refl,
  sym,
  ap,
  ◌∙◌,
  subst,
}
use Rattle.std.specs.List.{IsDistinct}
use Rattle.tree_core.specs.Tree.{Files}
use Rattle.resolve_stack.specs.Settings.{ProjectSettings}
use Rattle.session_core.specs.Session.{Session, IsSession}
use Rattle.import_graph.specs.declared.graph.Graph.{Graph}
use Rattle.import_graph.specs.Graph.{files_reached, graph_on, node_on}
use Rattle.import_graph.specs.GraphState.{GraphState, IsAsked, IsSameBut, LeavesAsked, graph_of}
use Rattle.import_graph.specs.Scans.{IsLast}
use Rattle.import_graph.proofs.Asked.{asked-again, requests-new}
use Rattle.import_graph.proofs.Graphs.{reached_once}

-- a graph on a session that was asked is the one on the session before
same-graph : (imports : List ℕ → List (List ℕ)) (s u : Session) (entries : List (List ℕ)) → IsSameBut s u
    → graph_on imports u.tree.files u.project entries ≡ graph_on imports s.tree.files s.project entries
same-graph imports s u entries same = ap (λ t. graph_on imports t u.project entries) same.files
    ∙ ap (λ p. graph_on imports s.tree.files p entries) same.project

-- a graph that was made is kept
pub last-made : (imports : List ℕ → List (List ℕ)) (s u : Session) (entries : List (List ℕ)) (g : Graph) → IsSession s
    → g ≡ graph_on imports s.tree.files s.project entries → IsAsked g s u → IsSameBut s u
    → IsLast imports u entries (Some g)
last-made imports s u entries g held is asked same = (
  is ∙ sym (same-graph imports s u entries same),
  asked-again g s u held (rw is (requests-new imports s.tree.files s.project entries)) asked,
)

pub borrowed-is : (imports : List ℕ → List (List ℕ)) (s u : Session) (entries given : List (List ℕ))
    (latest : Option Graph) (g : Graph) → given ≡ entries → latest ≡ Some g → IsLast imports u given latest
    → IsSameBut s u → g ≡ graph_on imports s.tree.files s.project entries
borrowed-is imports s u entries given None g given_is is last same = cc
borrowed-is imports s u entries given (Some h) g given_is is last same =
    let one : h ≡ g = cc in
    sym one ∙ last.0 ∙ ap (graph_on imports u.tree.files u.project) given_is ∙ same-graph imports s u entries same

pub borrowed-asked : (s u : Session) (latest : Option Graph) (g : Graph) → latest ≡ Some g
    → IfSome latest (λ h. IsAsked h s u) → IsAsked g s u
borrowed-asked s u None g is asked = cc
borrowed-asked s u (Some h) g is asked = let one : h ≡ g = cc in subst (λ (x : Graph). IsAsked x s u) one asked

files-of : (imports : List ℕ → List (List ℕ)) (t : Files) (project : ProjectSettings) (files : List (List ℕ))
    → map (λ node. node.file) (map (node_on imports t project) files) ≡ files
files-of imports t project [] = refl
files-of imports t project (file ∷ files) = ap (λ fs. file ∷ fs) (files-of imports t project files)

pub graph-once : (imports : List ℕ → List (List ℕ)) (s : GraphState) (g : Graph) → g ≡ graph_of imports s
    → IsDistinct bytes_eq (map (λ node. node.file) g.nodes)
graph-once imports s g is =
    let t = s.session.tree.files in
    let p = s.session.project in
    subst (IsDistinct bytes_eq) (sym (ap (λ (h : Graph). map (λ node. node.file) h.nodes) is
    ∙ files-of imports t p (files_reached imports t p s.entries))) (reached_once imports t p s.entries)

pub leaves-asked : (imports : List ℕ → List (List ℕ)) (s u : Session) (entries : List (List ℕ)) (g : Graph)
    → g ≡ graph_on imports s.tree.files s.project entries → IsAsked g s u
    → LeavesAsked imports (record { session = s; entries = entries }) (record { session = u; entries = entries })
leaves-asked imports s u entries g is asked =
    record { entries = refl; asked = subst (λ (h : Graph). IsAsked h s u) is asked }
