-- What the nodes of a trie hold, and how they lead to one another. No public clause names these.
use Rattle.std.specs.Prelude.{
  ◌≡◌,
  ◌≢◌,
  ◌<◌,
  ℕ,
  suc,
  true,
  false,
  if◌then◌else◌,
  IsSome,
  IfSome,
  List,
  [],
  ◌∷◌,
  length,
  map,
  get_or,
  Option,
  Some,
  None,
  option_map,
  bytes_eq,
  string_bytes,
  String,
}
use Rattle.std.specs.List.{filter_map}
use Rattle.std.specs.Map.{lookup}
use Rattle.std.specs.BTreeMap.{BTreeMap}
use Rattle.std.specs.declared.alloc.Global.{Global}
use Rattle.sugar_path.specs.Path.{Path, IsPath, below, text_of}
use Rattle.pnp_core.specs.declared.trie_nodes.Node.{Node}
use Rattle.pnp_core.specs.declared.trie_nodes.NodeId.{NodeId}
use Rattle.pnp_core.specs.Trie.{Locations, IsShared}

abbrev pub location_at : {T : Type 0} → List (Node T) → ℕ → Path
location_at ns i = get_or (map (λ n. n.location) ns) i []

abbrev pub value_in : {T : Type 0} → List (Node T) → ℕ → Option T
value_in ns i = get_or (map (λ n. n.value) ns) i None

-- places of nodes by names
abbrev pub ways : BTreeMap (String Global) NodeId → List (List ℕ × ℕ)
ways m = map (λ e. (string_bytes e.0, e.1.0)) m.entries

-- the child to which a name leads from a node
abbrev pub child_at : {T : Type 0} → List (Node T) → ℕ → List ℕ → Option ℕ
child_at ns i name = lookup (bytes_eq name) (get_or (map (λ n. ways n.children) ns) i [])

-- the values of the nodes, at their locations' texts
abbrev pub stored : {T : Type 0} → List (Node T) → Locations T
stored ns = filter_map (λ entry. entry) (map (λ n. option_map (λ v. (text_of n.location, v)) n.value) ns)

-- Nodes that are a trie. The first node is that of `/`, and each location has one node at most. A name leads to a node
-- below it, and on the way from a node to any node below it there is a child of the first.
pub record IsTrie (n : ℕ) (location : ℕ → Path) (child : ℕ → List ℕ → Option ℕ) : Type 0 where
  pub root : location 0 ≡ []
  pub paths : (i : ℕ) → IsPath (location i)
  pub distinct : (i j : ℕ) → i < n → j < n → location i ≡ location j → i ≡ j
  pub leads : (i c : ℕ) (name : List ℕ) → child i name ≡ Some c → (i < n) × (c < n)
      × (below (location c) (name ∷ location i) ≡ true)
  pub routed : (i j : ℕ) (name : List ℕ) → i < n → j < n → below (location j) (name ∷ location i) ≡ true → (c : ℕ)
      × (child i name ≡ Some c) × (below (location j) (location c) ≡ true)

-- a node without children was made, and a name leads to it from another one
pub record IsAttached (n : ℕ) (old new : ℕ → Path) (child child' : ℕ → List ℕ → Option ℕ) (at : ℕ) (name : List ℕ)
    (l : Path) : Type 0 where
  pub same : (i : ℕ) → i ≢ n → new i ≡ old i
  pub made : new n ≡ l
  pub way : (k : List ℕ) → child' at k ≡ (if bytes_eq name k then Some n else child at k)
  pub others : (i : ℕ) → i ≢ at → (k : List ℕ) → child' i k ≡ child i k

-- a node was made to which a name leads from another one, and from which a name leads to a third
pub record IsParted (n : ℕ) (old new : ℕ → Path) (child child' : ℕ → List ℕ → Option ℕ) (at : ℕ) (name : List ℕ)
    (l : Path) (below_it : List ℕ → Option ℕ) : Type 0 where
  pub same : (i : ℕ) → i ≢ n → new i ≡ old i
  pub made : new n ≡ l
  pub way : (k : List ℕ) → child' at k ≡ (if bytes_eq name k then Some n else child at k)
  pub further : (k : List ℕ) → child' n k ≡ below_it k
  pub others : (i : ℕ) → i ≢ at → i ≢ n → (k : List ℕ) → child' i k ≡ child i k

-- Two nodes were made: one as above, and one without children to which another name leads from it.
pub record IsBeside (n : ℕ) (old new : ℕ → Path) (child child' : ℕ → List ℕ → Option ℕ) (at : ℕ) (name : List ℕ)
    (l : Path) (below_it : List ℕ → Option ℕ) (beside : List ℕ) (p : Path) : Type 0 where
  pub same : (i : ℕ) → i ≢ n → i ≢ suc n → new i ≡ old i
  pub made : new n ≡ l
  pub made_beside : new (suc n) ≡ p
  pub way : (k : List ℕ) → child' at k ≡ (if bytes_eq name k then Some n else child at k)
  pub further : (k : List ℕ) → child' n k ≡ (if bytes_eq beside k then Some (suc n) else below_it k)
  pub others : (i : ℕ) → i ≢ at → i ≢ n → (k : List ℕ) → child' i k ≡ child i k

abbrev pub AreTrie : {T : Type 0} → List (Node T) → Type 0
AreTrie ns = IsTrie (length ns) (location_at ns) (child_at ns)

-- two names lead on from a node
abbrev pub Parts : {T : Type 0} → List (Node T) → ℕ → Type 0
Parts ns i = (a b : List ℕ) × (a ≢ b) × IsSome (child_at ns i a) × IsSome (child_at ns i b)

-- each node but those of `/` and of one more place has a value, or the ways part there
abbrev pub AreNeeded : {T : Type 0} → List (Node T) → ℕ → Type 0
AreNeeded ns but =
    (i : ℕ) → i < length ns → i ≢ 0 → i ≢ but → value_in ns i ≡ None → Parts ns i

-- the child of the name by which the way to a path leaves a node, if there is one
abbrev pub IsNext : {T : Type 0} → List (Node T) → ℕ → Path → Option ℕ → Type 0
IsNext ns i p None = (name : List ℕ) → below p (name ∷ location_at ns i) ≡ true → child_at ns i name ≡ None
IsNext ns i p (Some c) =
    (name : List ℕ) × (below p (name ∷ location_at ns i) ≡ true) × (child_at ns i name ≡ Some c)

-- the way to a path ends at a node: its child of that name isn't above the path
abbrev pub IsEnd : {T : Type 0} → List (Node T) → ℕ → Path → Option ℕ → Type 0
IsEnd ns i p o =
    IsNext ns i p o × IfSome o (λ c. below p (location_at ns c) ≡ false)

-- the nodes are as before, as far as a trie goes
pub record AreSame {T : Type 0} (old new : List (Node T)) : Type 0 where
  pub size : length new ≡ length old
  pub locations : (i : ℕ) → location_at new i ≡ location_at old i
  pub children : (i : ℕ) (name : List ℕ) → child_at new i name ≡ child_at old i name
  pub values : (i : ℕ) → value_in new i ≡ value_in old i
  pub stored : stored new ≡ stored old

-- a name leads from a node to a place, and nothing else has changed
pub record IsLed {T : Type 0} (old new : List (Node T)) (at : ℕ) (name : List ℕ) (place : ℕ) : Type 0 where
  pub size : length new ≡ length old
  pub locations : (i : ℕ) → location_at new i ≡ location_at old i
  pub way : (k : List ℕ) → child_at new at k ≡ (if bytes_eq name k then Some place else child_at old at k)
  pub others : (i : ℕ) → i ≢ at → (k : List ℕ) → child_at new i k ≡ child_at old i k
  pub values : (i : ℕ) → value_in new i ≡ value_in old i
  pub stored : stored new ≡ stored old

-- a node without value and children was put right below another one
pub record Attaches {T : Type 0} (old new : List (Node T)) (at : ℕ) (name : List ℕ) (l : Path) : Type 0 where
  pub size : length new ≡ suc (length old)
  pub attached : IsAttached (length old) (location_at old) (location_at new) (child_at old) (child_at new) at name l
  pub values : (i : ℕ) → value_in new i ≡ value_in old i
  pub stored : stored new ≡ stored old

-- a node without value was put between another one and its child of a name
pub record PutsBetween {T : Type 0} (old new : List (Node T)) (at : ℕ) (name : List ℕ) (node : Node T) : Type 0 where
  pub size : length new ≡ suc (length old)
  pub parted : IsParted (length old) (location_at old) (location_at new) (child_at old) (child_at new) at name
      node.location (λ k. lookup (bytes_eq k) (ways node.children))
  pub values : (i : ℕ) → value_in new i ≡ value_in old i
  pub stored : stored new ≡ stored old

-- and beside that child a node at a location
pub record PutsBeside {T : Type 0} (old new : List (Node T)) (at : ℕ) (name : List ℕ) (node : Node T) (beside : List ℕ)
    (p : Path) : Type 0 where
  pub size : length new ≡ suc (suc (length old))
  pub parted : IsBeside (length old) (location_at old) (location_at new) (child_at old) (child_at new) at name
      node.location (λ k. lookup (bytes_eq k) (ways node.children)) beside p
  pub values : (i : ℕ) → value_in new i ≡ value_in old i
  pub stored : stored new ≡ stored old

-- a node at a location, with neither value nor children
pub record IsLeaf {T : Type 0} (node : Node T) (l : Path) : Type 0 where
  pub location : node.location ≡ l
  pub children : node.children.entries ≡ []
  pub value : node.value ≡ None

-- a node where the ways to a node below it and to a path part
pub record IsParting {T : Type 0} (c : ℕ) (lower p : Path) (node : Node T) : Type 0 where
  pub empty : node.value ≡ None
  pub shared : IsShared lower p node.location
  pub name : List ℕ
  pub lower_name : below lower (name ∷ node.location) ≡ true
  pub way : (k : List ℕ) → lookup (bytes_eq k) (ways node.children) ≡ (if bytes_eq name k then Some c else None)

-- the place is that of the node at a location
pub record IsNodeOf {T : Type 0} (ns : List (Node T)) (l : Path) (i : ℕ) : Type 0 where
  pub place : i < length ns
  pub location : location_at ns i ≡ l

abbrev pub place_of : Option NodeId → Option ℕ
place_of o = option_map (λ i. i.0) o

-- the value of a node that was found
abbrev pub value_of : {T : Type 0} → List (Node T) → Option NodeId → Option T
value_of ns None = None
value_of ns (Some i) = value_in ns i.0
