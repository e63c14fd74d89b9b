-- What the nodes of a trie are once others were made.
use Rattle.std.proofs.Common.{
  ◌≡◌,
  ◌≢◌,
  ◌⊎◌,
  inl,
  inr,
  ◌<◌,
  ℕ,
  suc,
  Bool,
  true,
  false,
  cond,
  List,
  [],
  ◌∷◌,
  ◌++◌,
  length,
  refl,
  sym,
  ap,
  ◌∙◌,
  subst,
  arith,
  Option,
  Some,
  None,
  bytes_eq,
}
use Rattle.std.specs.Prelude.{IsSome, Result, Ok, Err, OnOk, OnErr, IfOk}
use Rattle.std.specs.Map.{lookup}
use Rattle.sugar_path.specs.Path.{Path, IsPath, below}
use Rattle.sugar_path.proofs.Below.{below-tells}
use Rattle.pnp_core.specs.declared.trie_nodes.Node.{Node}
use Rattle.pnp_core.specs.declared.trie_nodes.NodeId.{NodeId}
use Rattle.pnp_core.specs.Nodes.{
  location_at,
  value_in,
  child_at,
  ways,
  AreTrie,
  AreNeeded,
  Parts,
  AreSame,
  IsParted,
  Attaches,
  PutsBetween,
  PutsBeside,
  IsParting,
}
use Rattle.pnp_core.proofs.Belows.{below-child_of_it}
use Rattle.pnp_core.proofs.TrieShapes.{is_place, same_name, below_moved, below_both, attached, parted, parted_beside}

IsPath-folder : (q l : Path) → IsPath (q ++ l) → IsPath l
IsPath-folder [] l h = h
IsPath-folder (n ∷ q) l h = IsPath-folder q l h.1

IsPath-above : (p l : Path) → IsPath p → below p l ≡ true → IsPath l
IsPath-above p l hp h =
    let w = below-tells p l h in
    let P : Path → Type 0 = IsPath in
    IsPath-folder w.0 l (subst P w.1 hp)

-- ---- nodes are needed

some_if : (b : Bool) (n : ℕ) (o : Option ℕ) → IsSome o → IsSome (cond b (Some n) o)
some_if true n o h = refl
some_if false n o h = h

pub parts_kept : {T : Type 0} (ns ns' : List (Node T)) (i : ℕ)
    → ((k : List ℕ) → IsSome (child_at ns i k) → IsSome (child_at ns' i k)) → Parts ns i → Parts ns' i
parts_kept ns ns' i kept w = (w.0, w.1, w.2, kept w.0 w.3, kept w.1 w.4)

pub needed_same : {T : Type 0} (ns ns' : List (Node T)) (but : ℕ) → AreSame ns ns' → AreNeeded ns but
    → AreNeeded ns' but
needed_same ns ns' but same needed = λ i lt some other none.
    parts_kept ns ns' i (λ k h. rw (same.children i k) h) (needed i (rw (← same.size) lt) some other
    (sym (same.values i) ∙ none))

-- nodes at the same locations with the same ways are a trie as well
pub trie_alike : {T : Type 0} (ns ns' : List (Node T)) → length ns' ≡ length ns
    → ((i : ℕ) → location_at ns' i ≡ location_at ns i) → ((i : ℕ) (k : List ℕ) → child_at ns' i k ≡ child_at ns i k)
    → AreTrie ns → AreTrie ns'
trie_alike ns ns' size locations children t = rw size (record {
  root = locations 0 ∙ t.root;
  paths = λ i. rw (locations i) (t.paths i);
  distinct = λ i j lti ltj e. t.distinct i j lti ltj (sym (locations i) ∙ e ∙ locations j);
  leads = λ i c k e.
      let w = t.leads i c k (sym (children i k) ∙ e) in (
        w.0,
        w.1,
        below_moved (location_at ns c) (location_at ns' c) (location_at ns i) (location_at ns' i) k
            (sym (locations c)) (sym (locations i)) w.2,
      );
  routed = λ i j k lti ltj h.
      let w = t.routed i j k lti ltj (below_moved (location_at ns' j) (location_at ns j) (location_at ns' i)
      (location_at ns i) k (locations j) (locations i) h) in (
        w.0,
        children i k ∙ w.1,
        below_both (location_at ns' j) (location_at ns j) (location_at ns' w.0)
            (location_at ns w.0) (locations j) (locations w.0) w.2,
      );
})

pub trie_same : {T : Type 0} (ns ns' : List (Node T)) → AreSame ns ns' → AreTrie ns → AreTrie ns'
trie_same ns ns' same t = trie_alike ns ns' same.size same.locations same.children t

-- what follows from either outcome
pub either : {A E P Q C : Type 0} (r : Result A E) → OnOk r P → OnErr r Q → (P → C) → (Q → C) → C
either (Ok a) p q f g = f p
either (Err e) p q f g = g q

pub err_either : {A E Q C : Type 0} (r : Result A E) → OnErr r Q → (Q → C) → OnErr r C
err_either (Ok a) q g = tt
err_either (Err e) q g = g q

pub needed_made : {E P T : Type 0} (r : Result NodeId E) (ns : List (Node T)) (n : ℕ) → IfOk r (λ i. i.0 ≡ n) → OnOk r P
    → (P → AreNeeded ns n) → IfOk r (λ i. AreNeeded ns i.0)
needed_made (Ok i) ns n made p f = rw made (f p)
needed_made (Err e) ns n made p f = tt

-- ways that were there are there, at each node from before
kept : (n : ℕ) (child child' : ℕ → List ℕ → Option ℕ) (at : ℕ) (name : List ℕ) (place : ℕ)
    → ((k : List ℕ) → child' at k ≡ cond (bytes_eq name k) (Some place) (child at k))
    → ((i : ℕ) → i ≢ at → i ≢ n → (k : List ℕ) → child' i k ≡ child i k) → (i : ℕ) → i ≢ n → (k : List ℕ)
    → IsSome (child i k) → IsSome (child' i k)
kept n child child' at name place way others i other k h = by_place (is_place i at)
  where
    by_place : (i ≡ at) ⊎ (i ≢ at) → IsSome (child' i k)
    by_place (inl e) = rw (e, way k) (some_if (bytes_eq name k) place (child at k) (rw e at h))
    by_place (inr e) = rw (others i e other k) h

pub attaches_trie : {T : Type 0} (ns ns' : List (Node T)) (at : ℕ) (name : List ℕ) (l : Path) → AreTrie ns
    → at < length ns → IsPath l → below l (name ∷ location_at ns at) ≡ true → child_at ns at name ≡ None
    → Attaches ns ns' at name l → AreTrie ns'
attaches_trie ns ns' at name l t lt path b free a =
    rw a.size (attached (length ns) (location_at ns) (location_at ns') (child_at ns) (child_at ns') at name l t lt path
    b free a.attached)

pub attaches_needed : {T : Type 0} (ns ns' : List (Node T)) (at : ℕ) (name : List ℕ) (l : Path) → AreNeeded ns 0
    → Attaches ns ns' at name l → AreNeeded ns' (length ns)
attaches_needed ns ns' at name l needed a = λ i lt some other none.
    parts_kept ns ns' i (λ k. kept (length ns) (child_at ns) (child_at ns') at name (length ns) a.attached.way
    (λ j p q. a.attached.others j p) i other k)
    (needed i (omega (arith, a.size)) some some (sym (a.values i) ∙ none))

-- the way from the parting to the lower node is the only one
further_ways : {T : Type 0} (c : ℕ) (lower p : Path) (node : Node T) (w : IsParting c lower p node) (n : ℕ)
    (old new : ℕ → Path) (child child' : ℕ → List ℕ → Option ℕ) (at : ℕ) (name : List ℕ)
    → IsParted n old new child child' at name node.location (λ k. lookup (bytes_eq k) (ways node.children))
    → IsParted n old new child child' at name node.location (λ k. cond (bytes_eq w.name k) (Some c) None)
further_ways c lower p node w n old new child child' at name a =
    record { same = a.same; made = a.made; way = a.way; further = λ k. a.further k ∙ w.way k; others = a.others }

pub between_trie : {T : Type 0} (ns ns' : List (Node T)) (at c : ℕ) (name : List ℕ) (l : Path) (node : Node T)
    → AreTrie ns → child_at ns at name ≡ Some c → below l (name ∷ location_at ns at) ≡ true
    → IsParting c (location_at ns c) l node → PutsBetween ns ns' at name node → AreTrie ns'
between_trie ns ns' at c name l node t is b w a =
    let lead = t.leads at c name is in
    rw a.size
    (parted (length ns) (location_at ns) (location_at ns') (child_at ns) (child_at ns') at name node.location w.name c t
    (IsPath-above (location_at ns c) node.location (t.paths c) w.shared.first) is
    (w.shared.longest (name ∷ location_at ns at) lead.2 b) w.lower_name
    (further_ways c (location_at ns c) l node w (length ns) (location_at ns) (location_at ns') (child_at ns)
    (child_at ns') at name a.parted))

pub between_needed : {T : Type 0} (ns ns' : List (Node T)) (at : ℕ) (name : List ℕ) (node : Node T) → AreNeeded ns 0
    → PutsBetween ns ns' at name node → AreNeeded ns' (length ns)
between_needed ns ns' at name node needed a = λ i lt some other none.
    parts_kept ns ns' i (λ k. kept (length ns) (child_at ns) (child_at ns') at name (length ns) a.parted.way
    a.parted.others i other k)
    (needed i (omega (arith, a.size)) some some (sym (a.values i) ∙ none))

-- the two names below a parting are apart
names_apart : {T : Type 0} (c : ℕ) (lower p : Path) (node : Node T) (x : List ℕ) (w : IsParting c lower p node)
    → below p (x ∷ node.location) ≡ true → w.name ≢ x
names_apart c lower p node x w h e =
    below-child_of_it node.location x (w.shared.longest (x ∷ node.location) (rw e at w.lower_name) h)

pub beside_trie : {T : Type 0} (ns ns' : List (Node T)) (at c : ℕ) (name : List ℕ) (l : Path) (node : Node T)
    (x : List ℕ) → AreTrie ns → IsPath l → child_at ns at name ≡ Some c → below l (name ∷ location_at ns at) ≡ true
    → IsParting c (location_at ns c) l node → below l (x ∷ node.location) ≡ true → PutsBeside ns ns' at name node x l
    → AreTrie ns'
beside_trie ns ns' at c name l node x t path is b w h a =
    let lead = t.leads at c name is in
    rw a.size
    (parted_beside (length ns) (location_at ns) (location_at ns') (child_at ns) (child_at ns') at name node.location
    w.name c x l t
    (IsPath-above (location_at ns c) node.location (t.paths c) w.shared.first) path is
    (w.shared.longest (name ∷ location_at ns at) lead.2 b) w.lower_name h
    (names_apart c (location_at ns c) l node x w h)
    (record {
      same = a.parted.same;
      made = a.parted.made;
      made_beside = a.parted.made_beside;
      way = a.parted.way;
      further = λ k. a.parted.further k ∙ ap (λ o. cond (bytes_eq x k) (Some (suc (length ns))) o) (w.way k);
      others =
          a.parted.others;
    }))

pub beside_needed : {T : Type 0} (ns ns' : List (Node T)) (at c : ℕ) (name : List ℕ) (l : Path) (node : Node T)
    (x : List ℕ) → AreNeeded ns 0 → IsParting c (location_at ns c) l node → below l (x ∷ node.location) ≡ true
    → PutsBeside ns ns' at name node x l → AreNeeded ns' (suc (length ns))
beside_needed {T} ns ns' at c name l node x needed w h a =
    λ i lt some other none. by_place i lt some other none (is_place i (length ns))
  where
    to_lower : IsSome (child_at ns' (length ns) w.name)
    to_lower = rw (a.parted.further w.name, w.way w.name, same_name w.name)
        (some_if (bytes_eq x w.name) (suc (length ns)) (Some c) refl)

    to_beside : IsSome (child_at ns' (length ns) x)
    to_beside = rw (a.parted.further x, same_name x) refl

    by_place : (i : ℕ) → i < length ns' → i ≢ 0 → i ≢ suc (length ns) → value_in ns' i ≡ None → (i ≡ length ns)
        ⊎ (i ≢ length ns) → Parts ns' i
    by_place i lt some other none (inl e) =
        rw e (w.name, x, names_apart c (location_at ns c) l node x w h, to_lower, to_beside)
    by_place i lt some other none (inr q) =
        parts_kept ns ns' i (λ k. kept (length ns) (child_at ns) (child_at ns') at name (length ns) a.parted.way
        a.parted.others i q k)
        (needed i (omega (arith, a.size)) some some (sym (a.values i) ∙ none))
