-- A trie where a node gets a value.
use Rattle.std.proofs.Common.{
  ◌≡◌,
  ◌≢◌,
  ◌⊎◌,
  inl,
  inr,
  ◌<◌,
  ℕ,
  zero,
  suc,
  true,
  false,
  cond,
  List,
  [],
  ◌∷◌,
  length,
  map,
  get_or,
  set,
  sym,
  ap,
  ◌∙◌,
  arith,
  Option,
  Some,
  None,
  bytes_eq,
}
use Rattle.std.specs.Map.{lookup}
use Rattle.std.proofs.lemmas.List.{map-set, length-set, length-map, get_or-set_same, get_or-set_other}
use Rattle.std.proofs.Math.Seq.{map-set_same}
use Rattle.sugar_path.specs.Path.{Path, IsPath, path_eq}
use Rattle.pnp_core.specs.declared.trie_nodes.Node.{Node}
use Rattle.pnp_core.specs.Trie.{value_at, Puts}
use Rattle.pnp_core.specs.Nodes.{location_at, value_in, child_at, ways, stored, AreTrie, AreNeeded, Parts}
use Rattle.pnp_core.proofs.TrieShapes.{is_place}
use Rattle.pnp_core.proofs.TrieMakes.{trie_alike, parts_kept}
use Rattle.pnp_core.proofs.TrieWays.{is_path, no_node, at_node}

-- a node with a value in place of its own
abbrev pub with_value : {T : Type 0} → Node T → T → Node T
with_value x v = record { location = x.location; children = x.children; value = Some v }

same_locations : {T : Type 0} (ns : List (Node T)) (i : ℕ) (x : Node T) (v : T) → x ≡ get_or ns i x → (j : ℕ)
    → location_at (set ns i (with_value x v)) j ≡ location_at ns j
same_locations {T} ns i x v is j = ap (λ ps. get_or ps j [])
    (map-set_same (λ (n : Node T). n.location) ns i (with_value x v) x (ap (λ (n : Node T). n.location) is))

same_children : {T : Type 0} (ns : List (Node T)) (i : ℕ) (x : Node T) (v : T) → x ≡ get_or ns i x
    → (j : ℕ) (k : List ℕ) → child_at (set ns i (with_value x v)) j k ≡ child_at ns j k
same_children {T} ns i x v is j k = ap (λ es. lookup (bytes_eq k) (get_or es j []))
    (map-set_same (λ (n : Node T). ways n.children) ns i (with_value x v) x (ap (λ (n : Node T). ways n.children) is))

its_value : {T : Type 0} (ns : List (Node T)) (i : ℕ) (x : Node T) (v : T) → i < length ns
    → value_in (set ns i (with_value x v)) i ≡ Some v
its_value {T} ns i x v lt =
    let f : Node T → Option T = λ n. n.value in
    let inside : i < length (map f ns) = omega (arith, length-map ns f) in
    ap (λ vs. get_or vs i None) (map-set f ns i (with_value x v)) ∙ get_or-set_same (map f ns) i (Some v) None inside

other_values : {T : Type 0} (ns : List (Node T)) (i : ℕ) (x : Node T) (v : T) (j : ℕ) → j ≢ i
    → value_in (set ns i (with_value x v)) j ≡ value_in ns j
other_values {T} ns i x v j other =
    let f : Node T → Option T = λ n. n.value in
    ap (λ vs. get_or vs j None) (map-set f ns i (with_value x v)) ∙ get_or-set_other (map f ns) i j (Some v) None other

pub valued_trie : {T : Type 0} (ns : List (Node T)) (i : ℕ) (x : Node T) (v : T) → x ≡ get_or ns i x → AreTrie ns
    → AreTrie (set ns i (with_value x v))
valued_trie ns i x v is t = trie_alike ns (set ns i (with_value x v)) (length-set ns i (with_value x v))
    (same_locations ns i x v is) (same_children ns i x v is) t

pub valued_needed : {T : Type 0} (ns : List (Node T)) (i : ℕ) (x : Node T) (v : T) → i < length ns → x ≡ get_or ns i x
    → AreNeeded ns i → AreNeeded (set ns i (with_value x v)) 0
valued_needed {T} ns i x v lt is needed =
    λ j ltj some other none. by_place j (rw (length-set ns i (with_value x v)) at ltj) some none (is_place j i)
  where
    by_place : (j : ℕ) → j < length ns → j ≢ 0 → value_in (set ns i (with_value x v)) j ≡ None → (j ≡ i) ⊎ (j ≢ i)
        → Parts (set ns i (with_value x v)) j
    by_place j ltj some none (inl e) =
        absurd (let no : Some v ≡ None = sym (its_value ns i x v lt) ∙ rw e at none in cc)
    by_place j ltj some none (inr other) =
        parts_kept ns (set ns i (with_value x v)) j (λ k h. rw (same_children ns i x v is j k) h)
        (needed j ltj some other (sym (other_values ns i x v j other) ∙ none))

-- the node at a location, or none
pub node_of : {T : Type 0} (ns : List (Node T)) (p : Path) → ((j : ℕ) × (j < length ns) × (location_at ns j ≡ p))
    ⊎ ((j : ℕ) → j < length ns → location_at ns j ≢ p)
node_of [] p = inr (λ j lt e. omega arith)
node_of {T} (n ∷ ns) p = by_first (is_path n.location p) (node_of ns p)
  where
    by_rest : n.location ≢ p → ((j : ℕ) × (j < length ns) × (location_at ns j ≡ p))
        ⊎ ((j : ℕ) → j < length ns → location_at ns j ≢ p)
        → ((j : ℕ) × (j < length (n ∷ ns)) × (location_at (n ∷ ns) j ≡ p))
        ⊎ ((j : ℕ) → j < length (n ∷ ns) → location_at (n ∷ ns) j ≢ p)
    by_rest other (inl w) = inl (suc w.0, omega (arith, w.1), w.2)
    by_rest other (inr none) = inr each
      where
        each : (j : ℕ) → j < length (n ∷ ns) → location_at (n ∷ ns) j ≢ p
        each zero lt = other
        each (suc j) lt = none j (omega arith)

    by_first : ((path_eq n.location p ≡ true) × (n.location ≡ p)) ⊎ ((path_eq n.location p ≡ false) × (n.location ≢ p))
        → ((j : ℕ) × (j < length ns) × (location_at ns j ≡ p)) ⊎ ((j : ℕ) → j < length ns → location_at ns j ≢ p)
        → ((j : ℕ) × (j < length (n ∷ ns)) × (location_at (n ∷ ns) j ≡ p))
        ⊎ ((j : ℕ) → j < length (n ∷ ns) → location_at (n ∷ ns) j ≢ p)
    by_first (inl w) rest = inl (0, omega arith, w.1)
    by_first (inr w) rest = by_rest w.1 rest

pub valued_puts : {T : Type 0} (ns : List (Node T)) (i : ℕ) (x : Node T) (v : T) (l : Path) → AreTrie ns → i < length ns
    → x ≡ get_or ns i x → location_at ns i ≡ l → Puts (stored ns) (stored (set ns i (with_value x v))) l v
valued_puts {T} ns i x v l t lt is here = λ p hp. by_path p hp (is_path l p) (node_of ns p)
  where
    t' : AreTrie (set ns i (with_value x v))
    t' = valued_trie ns i x v is t

    size : length (set ns i (with_value x v)) ≡ length ns
    size = length-set ns i (with_value x v)

    at_new : (j : ℕ) → j < length ns → value_at (stored (set ns i (with_value x v))) (location_at ns j) ≡ value_in
        (set ns i (with_value x v)) j
    at_new j ltj = ap (value_at (stored (set ns i (with_value x v)))) (sym (same_locations ns i x v is j))
        ∙ at_node (set ns i (with_value x v)) j t' (rw size ltj)

    by_path : (p : Path) → IsPath p → ((path_eq l p ≡ true) × (l ≡ p)) ⊎ ((path_eq l p ≡ false) × (l ≢ p))
        → ((j : ℕ) × (j < length ns) × (location_at ns j ≡ p)) ⊎ ((j : ℕ) → j < length ns → location_at ns j ≢ p)
        → value_at (stored (set ns i (with_value x v))) p ≡ cond (path_eq l p) (Some v) (value_at (stored ns) p)
    by_path p hp (inl w) found = rw w.0 (ap (value_at (stored (set ns i (with_value x v)))) (sym w.1 ∙ sym here)
        ∙ at_new i lt ∙ its_value ns i x v lt)
    by_path p hp (inr w) (inl found) =
        let other : found.0 ≢ i = (λ e. w.1 (sym here ∙ ap (location_at ns) (sym e) ∙ found.2)) in
        rw w.0
        (ap (value_at (stored (set ns i (with_value x v)))) (sym found.2) ∙ at_new found.0 found.1
        ∙ other_values ns i x v found.0 other
        ∙ sym (at_node ns found.0 t found.1) ∙ ap (value_at (stored ns)) found.2)
    by_path p hp (inr w) (inr none) =
        rw w.0
        (no_node (set ns i (with_value x v)) p t' hp (λ j ltj e. none j (rw size at ltj)
        (sym (same_locations ns i x v is j) ∙ e))
        ∙ sym (no_node ns p t hp none))
