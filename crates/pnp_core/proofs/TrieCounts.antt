-- A trie's nodes are `/`, the locations, and what each two of them share.
use Rattle.std.proofs.Common.{
  ◌≡◌,
  ◌≢◌,
  ◌⊎◌,
  inl,
  inr,
  ◌+◌,
  ◌≤◌,
  ◌<◌,
  max,
  ℕ,
  zero,
  suc,
  true,
  false,
  List,
  [],
  ◌∷◌,
  length,
  map,
  get_or,
  refl,
  sym,
  ap,
  ◌∙◌,
  arith,
  Option,
  Some,
  None,
}
use Rattle.std.specs.Prelude.{◌↔◌, IsSome, is_some}
use Rattle.std.specs.List.{Contains, IsDistinct, AllByRecursion}
use Rattle.std.proofs.lemmas.List.{length-map}
use Rattle.sugar_path.specs.Path.{Path, path_eq, below}
use Rattle.sugar_path.proofs.Below.{below-through, below-same, below-root}
use Rattle.pnp_core.specs.declared.trie_nodes.Node.{Node}
use Rattle.pnp_core.specs.Trie.{IsLocation, IsShared, HasNode, CountsNodes}
use Rattle.pnp_core.specs.Nodes.{location_at, value_in, child_at, stored, AreTrie, AreNeeded, Parts}
use Rattle.pnp_core.proofs.Belows.{below-length, below-parent, below-next, below-one_name, below-shorter}
use Rattle.pnp_core.proofs.TrieShapes.{is_place}
use Rattle.pnp_core.proofs.TrieWays.{is_path, no_node, at_node}
use Rattle.pnp_core.proofs.TrieValues.{node_of}

-- no location is longer
longest : {T : Type 0} (ns : List (Node T)) → (b : ℕ) × ((i : ℕ) → length (location_at ns i) ≤ b)
longest [] = (0, λ i. omega arith)
longest {T} (n ∷ ns) =
    let w = longest ns in
    (length n.location + w.0, each w.0 w.1)
  where
    each : (b : ℕ) → ((i : ℕ) → length (location_at ns i) ≤ b) → (i : ℕ)
        → length (location_at (n ∷ ns) i) ≤ length n.location + b
    each b le zero = omega arith
    each b le (suc i) = omega (arith, le i)

abbrev HoldsBelow : {T : Type 0} → List (Node T) → ℕ → Type 0
HoldsBelow ns c =
    (j : ℕ) × (j < length ns) × IsSome (value_in ns j) × (below (location_at ns j) (location_at ns c) ≡ true)

-- what a name leads to from a node that isn't that of `/`
child_some : (o : Option ℕ) → IsSome o → (c : ℕ) × (o ≡ Some c)
child_some None h = cc
child_some (Some c) h = (c, refl)

-- below each node but that of `/` there is a value
value_below : {T : Type 0} (ns : List (Node T)) (t : AreTrie ns) (needed : AreNeeded ns 0) (b : ℕ)
    → ((i : ℕ) → length (location_at ns i) ≤ b) → (fuel c : ℕ) → c < length ns → c ≢ 0
    → b < length (location_at ns c) + fuel → HoldsBelow ns c
value_below ns t needed b le zero c lt some more = absurd (omega (arith, le c))
value_below {T} ns t needed b le (suc fuel) c lt some more =
    by_value (value_in ns c) refl (λ d. value_below ns t needed b le fuel d)
  where
    down : ((d : ℕ) → d < length ns → d ≢ 0 → b < length (location_at ns d) + fuel → HoldsBelow ns d) → Parts ns c
        → HoldsBelow ns c
    down further w =
        let d = child_some (child_at ns c w.0) w.3 in
        let lead = t.leads c d.0 w.0 d.1 in
        let longer = below-length (location_at ns d.0) (w.0 ∷ location_at ns c) lead.2 in
        let other : d.0 ≢ 0 = (λ e. let root : location_at ns d.0 ≡ [] = ap (location_at ns) e ∙ t.root in
        omega (arith, longer, ap length root)) in
        let r = further d.0 lead.1 other (omega (arith, longer)) in (
          r.0,
          r.1,
          r.2,
          below-through (location_at ns r.0) (location_at ns d.0) (location_at ns c) r.3
              (below-parent (location_at ns d.0) (location_at ns c) w.0 lead.2),
        )

    by_value : (o : Option T) → value_in ns c ≡ o
        → ((d : ℕ) → d < length ns → d ≢ 0 → b < length (location_at ns d) + fuel → HoldsBelow ns d) → HoldsBelow ns c
    by_value (Some v) e further = (c, lt, ap is_some e, below-same (location_at ns c))
    by_value None e further = down further (needed c lt some some e)

location_of : {T : Type 0} (ns : List (Node T)) (j : ℕ) → AreTrie ns → j < length ns → IsSome (value_in ns j)
    → IsLocation (stored ns) (location_at ns j)
location_of ns j t lt some = (t.paths j, ap is_some (at_node ns j t lt) ∙ some)

order : (m n : ℕ) → (m ≤ n) ⊎ (n ≤ m)
order zero n = inl (omega arith)
order (suc m) zero = inr (omega arith)
order (suc m) (suc n) = by_case (order m n)
  where
    by_case : (m ≤ n) ⊎ (n ≤ m) → (suc m ≤ suc n) ⊎ (suc n ≤ suc m)
    by_case (inl le) = inl (omega arith)
    by_case (inr le) = inr (omega arith)

-- two values below a node by two names share it
parting_shared : (l a b : Path) (m k : List ℕ) → m ≢ k → below a (m ∷ l) ≡ true → below b (k ∷ l) ≡ true
    → IsShared a b l
parting_shared l a b m k apart h g =
    record { first = below-parent a l m h; second = below-parent b l k g; longest = no_longer }
  where
    no_longer : (x : Path) → below a x ≡ true → below b x ≡ true → below l x ≡ true
    no_longer x f e = by_length (length x) refl
      where
        by_case : (x ≡ l) ⊎ ((n : List ℕ) × (below x (n ∷ l) ≡ true)) → below l x ≡ true
        by_case (inl same) = rw same (below-same l)
        by_case (inr n) =
            let one : m ≡ n.0 = below-one_name a l m n.0 h (below-through a x (n.0 ∷ l) f n.1) in
            let two : k ≡ n.0 = below-one_name b l k n.0 g (below-through b x (n.0 ∷ l) e n.1) in
            absurd (apart (one ∙ sym two))

        by_length : (n : ℕ) → length x ≡ n → below l x ≡ true
        by_length n is = by_order (order (length x) (length l))
          where
            by_order : (length x ≤ length l) ⊎ (length l ≤ length x) → below l x ≡ true
            by_order (inl le) = below-shorter a l x (below-parent a l m h) f le
            by_order (inr le) = by_case (below-next x l (below-shorter a x l f (below-parent a l m h) le))

has_node : {T : Type 0} (ns : List (Node T)) (i : ℕ) → AreTrie ns → AreNeeded ns 0 → i < length ns
    → HasNode (stored ns) (location_at ns i)
has_node {T} ns i t needed lt = by_place (is_place i 0)
  where
    parted : i ≢ 0 → Parts ns i → HasNode (stored ns) (location_at ns i)
    parted other w =
        let b = longest ns in
        let c = child_some (child_at ns i w.0) w.3 in
        let d = child_some (child_at ns i w.1) w.4 in
        let to_c = t.leads i c.0 w.0 c.1 in
        let to_d = t.leads i d.0 w.1 d.1 in
        let not_c : c.0 ≢ 0 = (λ e. let root : location_at ns c.0 ≡ [] = ap (location_at ns) e ∙ t.root in
        omega (arith, below-length (location_at ns c.0) (w.0 ∷ location_at ns i) to_c.2, ap length root)) in
        let not_d : d.0 ≢ 0 = (λ e. let root : location_at ns d.0 ≡ [] = ap (location_at ns) e ∙ t.root in
        omega (arith, below-length (location_at ns d.0) (w.1 ∷ location_at ns i) to_d.2, ap length root)) in
        let x = value_below ns t needed b.0 b.1 (suc b.0) c.0 to_c.1 not_c (omega arith) in
        let y = value_below ns t needed b.0 b.1 (suc b.0) d.0 to_d.1 not_d (omega arith) in
        inr (inr (
          location_at ns x.0,
          location_at ns y.0,
          location_of ns x.0 t x.1 x.2,
          location_of ns y.0 t y.1 y.2,
          parting_shared (location_at ns i) (location_at ns x.0) (location_at ns y.0) w.0 w.1 w.2
              (below-through (location_at ns x.0) (location_at ns c.0) (w.0 ∷ location_at ns i) x.3 to_c.2)
              (below-through (location_at ns y.0) (location_at ns d.0) (w.1 ∷ location_at ns i) y.3 to_d.2),
        ))

    by_value : i ≢ 0 → (o : Option T) → value_in ns i ≡ o → HasNode (stored ns) (location_at ns i)
    by_value other (Some v) e = inr (inl (location_of ns i t lt (ap is_some e)))
    by_value other None e = parted other (needed i lt other other e)

    by_place : (i ≡ 0) ⊎ (i ≢ 0) → HasNode (stored ns) (location_at ns i)
    by_place (inl e) = inl (ap (location_at ns) e ∙ t.root)
    by_place (inr other) = by_value other (value_in ns i) refl

abbrev IsThere : {T : Type 0} → List (Node T) → Path → Type 0
IsThere ns l = (j : ℕ) × (j < length ns) × (location_at ns j ≡ l)

-- a location has a node
location_there : {T : Type 0} (ns : List (Node T)) (l : Path) → AreTrie ns → IsLocation (stored ns) l → IsThere ns l
location_there ns l t h = by_node (node_of ns l)
  where
    by_node : ((j : ℕ) × (j < length ns) × (location_at ns j ≡ l)) ⊎ ((j : ℕ) → j < length ns → location_at ns j ≢ l)
        → IsThere ns l
    by_node (inl w) = w
    by_node (inr none) = absurd (let no : false ≡ true = sym (ap is_some (no_node ns l t h.0 none)) ∙ h.1 in cc)

-- and so has what two locations share: the way there goes down from a node above it
shared_there : {T : Type 0} (ns : List (Node T)) (t : AreTrie ns) (a b l : Path) → IsShared a b l → (x y : ℕ)
    → x < length ns → y < length ns → location_at ns x ≡ a → location_at ns y ≡ b → (fuel i : ℕ) → i < length ns
    → below l (location_at ns i) ≡ true → length l < length (location_at ns i) + fuel → IsThere ns l
shared_there ns t a b l s x y ltx lty is_a is_b zero i lt h more =
    absurd (omega (arith, below-length l (location_at ns i) h))
shared_there {T} ns t a b l s x y ltx lty is_a is_b (suc fuel) i lt h more =
    by_next (below-next l (location_at ns i) h) (λ c. shared_there ns t a b l s x y ltx lty is_a is_b fuel c)
  where
    by_next : (l ≡ location_at ns i) ⊎ ((m : List ℕ) × (below l (m ∷ location_at ns i) ≡ true))
        → ((c : ℕ) → c < length ns → below l (location_at ns c) ≡ true → length l < length (location_at ns c) + fuel
        → IsThere ns l) → IsThere ns l
    by_next (inl same) further = (i, lt, sym same)
    by_next (inr m) further =
        let to_a = t.routed i x m.0 lt ltx (rw is_a (below-through a l (m.0 ∷ location_at ns i) s.first m.1)) in
        let to_b = t.routed i y m.0 lt lty (rw is_b (below-through b l (m.0 ∷ location_at ns i) s.second m.1)) in
        let one : to_a.0 ≡ to_b.0 = (let same : Some to_a.0 ≡ Some to_b.0 = sym to_a.1 ∙ to_b.1 in cc) in
        let lead = t.leads i to_a.0 m.0 to_a.1 in
        let longer = below-length (location_at ns to_a.0) (m.0 ∷ location_at ns i) lead.2 in
        let lower = s.longest (location_at ns to_a.0) (rw is_a at to_a.2) (rw (is_b, ← one) at to_b.2) in
        further to_a.0 lead.1 lower (omega (arith, longer))

node_there : {T : Type 0} (ns : List (Node T)) (l : Path) → AreTrie ns → 0 < length ns → HasNode (stored ns) l
    → IsThere ns l
node_there ns l t lt (inl root) = (0, lt, t.root ∙ sym root)
node_there ns l t lt (inr (inl h)) = location_there ns l t h
node_there ns l t lt (inr (inr w)) =
    let x = location_there ns w.0 t w.2 in
    let y = location_there ns w.1 t w.3 in
    shared_there ns t w.0 w.1 l w.4 x.0 y.0 x.1 y.1 x.2 y.2 (suc (length l)) 0 lt (rw t.root (below-root l))
    (omega arith)

-- ---- the list of the nodes' locations

distinct_paths : (ps : List Path) → ((i j : ℕ) → i < length ps → j < length ps → get_or ps i [] ≡ get_or ps j []
    → i ≡ j) → IsDistinct path_eq ps
unfolding IsDistinct
distinct_paths [] d = tt
distinct_paths (p ∷ ps) d = (
  apart ps (λ j lt e. let no : suc j ≡ 0 = d (suc j) 0 (omega arith) (omega arith) (sym e) in
      omega arith),
  distinct_paths ps (λ i j lti ltj e. let one : suc i ≡ suc j =
      d (suc i) (suc j) (omega arith) (omega arith) e in omega arith),
)
  where
    apart : (qs : List Path) → ((j : ℕ) → j < length qs → p ≡ get_or qs j [] → ⊥)
        → AllByRecursion (λ q. path_eq p q ≡ false) qs
    apart [] none = tt
    apart (q ∷ qs) none = (by_case (is_path p q), apart qs (λ j lt e. none (suc j) (omega arith) e))
      where
        by_case : ((path_eq p q ≡ true) × (p ≡ q)) ⊎ ((path_eq p q ≡ false) × (p ≢ q)) → path_eq p q ≡ false
        by_case (inl w) = absurd (none 0 (omega arith) w.1)
        by_case (inr w) = w.0

abbrev locations : {T : Type 0} → List (Node T) → List Path
locations ns = map (λ n. n.location) ns

contains_there : {T : Type 0} (ns : List (Node T)) (l : Path) → Contains (locations ns) l ↔ IsThere ns l
contains_there {T} ns l = (
  λ w. (
    w.0,
    omega (arith, w.1, length-map ns (λ (n : Node T). n.location)),
    any_default (locations ns) w.0 l [] w.1
        ∙ w.2,
  ),
  λ w.
      let inside : w.0 < length (locations ns) = omega (arith, w.1, length-map ns (λ (n : Node T). n.location)) in
      (w.0, inside, any_default (locations ns) w.0 [] l inside ∙ w.2),
)
  where
    any_default : (ps : List Path) (i : ℕ) (p q : Path) → i < length ps → get_or ps i q ≡ get_or ps i p
    any_default [] i p q lt = absurd (omega arith)
    any_default (x ∷ ps) zero p q lt = refl
    any_default (x ∷ ps) (suc i) p q lt = any_default ps i p q (omega arith)

counts : {T : Type 0} (ns : List (Node T)) (n : ℕ) → AreTrie ns → AreNeeded ns 0 → 0 < length ns → n ≡ length ns
    → CountsNodes (stored ns) n
counts {T} ns n t needed lt is = record {
  nodes = locations ns;
  count = length-map ns (λ (x : Node T). x.location) ∙ sym is;
  once = distinct_paths (locations ns) (λ i j lti ltj e. t.distinct i j (omega (arith, lti, size))
      (omega (arith, ltj, size)) e);
  exact = λ l. (
    λ w. let there = (contains_there ns l).0 w in rw (← there.2) (has_node ns there.0 t needed there.1),
    λ h. (contains_there ns l).1 (node_there ns l t lt h),
  );
}
  where
    size : length (locations ns) ≡ length ns
    size = length-map ns (λ (x : Node T). x.location)

-- without nodes there is that of `/`
counts_none : {T : Type 0} (ns : List (Node T)) (n : ℕ) → length ns ≡ 0 → n ≡ 1 → CountsNodes (stored ns) n
counts_none (x ∷ ns) n e is = absurd (omega arith)
counts_none {T} [] n e is = record {
  nodes = [] ∷ [];
  count = sym is;
  once = distinct_paths ([] ∷ []) (λ i j lti ltj e. omega arith);
  exact = λ l. (λ w. inl (only w.0 l w.1 w.2), λ h. by_case l h);
}
  where
    only : (k : ℕ) (l : Path) → k < 1 → get_or ([] ∷ []) k l ≡ l → l ≡ []
    only zero l lt e = sym e
    only (suc k) l lt e = absurd (omega arith)

    no_location : (l : Path) → IsLocation {T = T} [] l → ⊥
    no_location l h = let no : false ≡ true = h.1 in cc

    by_case : (l : Path) → HasNode {T = T} [] l → Contains ([] ∷ []) l
    by_case l (inl root) = (0, omega arith, sym root)
    by_case l (inr (inl h)) = absurd (no_location l h)
    by_case l (inr (inr w)) = absurd (no_location w.0 w.2)

-- there is a node at least
pub counts_all : {T : Type 0} (ns : List (Node T)) (n : ℕ) → AreTrie ns → AreNeeded ns 0 → n ≡ max (length ns) 1
    → CountsNodes (stored ns) n
counts_all ns n t needed is = by_place (is_place (length ns) 0)
  where
    by_place : (length ns ≡ 0) ⊎ (length ns ≢ 0) → CountsNodes (stored ns) n
    by_place (inl e) = counts_none ns n e (omega arith)
    by_place (inr some) = counts ns n t needed (omega arith) (omega arith)
