-- Nodes stay a trie where one is put right below another, or between two.
use Rattle.std.proofs.Common.{
  ◌≡◌,
  ◌≢◌,
  ◌⊎◌,
  inl,
  inr,
  ◌<◌,
  ◌==◌,
  ℕ,
  suc,
  Bool,
  true,
  false,
  cond,
  List,
  ◌∷◌,
  refl,
  sym,
  ap,
  ◌∙◌,
  arith,
  Option,
  Some,
  None,
  bytes_eq,
}
use Rattle.std.proofs.lemmas.Bool.Decides.{eqb_tells}
use Rattle.std.proofs.lemmas.Slice.Eq.{bytes_eq-Decides}
use Rattle.sugar_path.specs.Path.{Path, IsPath, below}
use Rattle.sugar_path.proofs.Below.{below-through, below-same}
use Rattle.pnp_core.specs.Nodes.{IsTrie, IsAttached, IsParted, IsBeside}
use Rattle.pnp_core.proofs.Belows.{below-child_of_it, below-parent, below-compared, below-next, below-one_name}

-- a place is another, or not
pub is_place : (i n : ℕ) → (i ≡ n) ⊎ (i ≢ n)
is_place i n = by_test (eqb_tells i n)
  where
    by_test : (((i == n) ≡ true) × (i ≡ n)) ⊎ (((i == n) ≡ false) × (i ≢ n)) → (i ≡ n) ⊎ (i ≢ n)
    by_test (inl w) = inl w.1
    by_test (inr w) = inr w.1

-- a name is another, or not
pub is_name : (m k : List ℕ) → ((bytes_eq m k ≡ true) × (m ≡ k)) ⊎ (bytes_eq m k ≡ false)
is_name m k = by_test (bytes_eq m k) refl
  where
    by_test : (b : Bool) → bytes_eq m k ≡ b → ((bytes_eq m k ≡ true) × (m ≡ k)) ⊎ (bytes_eq m k ≡ false)
    by_test true e = inl (e, (bytes_eq-Decides m k).0 e)
    by_test false e = inr e

pub same_name : (m : List ℕ) → bytes_eq m m ≡ true
same_name m = (bytes_eq-Decides m m).1 refl

-- a path lies below another one's child where equal paths do
pub below_moved : (x y v w : Path) (k : List ℕ) → x ≡ y → v ≡ w → below x (k ∷ v) ≡ true → below y (k ∷ w) ≡ true
below_moved x y v w k e f h = sym (ap (λ z. below z (k ∷ v)) e ∙ ap (λ z. below y (k ∷ z)) f) ∙ h

pub below_both : (x y v w : Path) → x ≡ y → v ≡ w → below y w ≡ true → below x v ≡ true
below_both x y v w e f h = ap (λ z. below z v) e ∙ ap (below y) f ∙ h

-- A way from a node to a path that has no node is found below or at another node above that path. Either a node above
-- the path and below that other node is given, or the way leads through the other node.
through_other : (n : ℕ) (loc : ℕ → Path) (child : ℕ → List ℕ → Option ℕ) (at i : ℕ) (m k : List ℕ) (l : Path)
    → IsTrie n loc child → at < n → i < n → i ≢ at → below l (m ∷ loc at) ≡ true → below l (k ∷ loc i) ≡ true
    → (below (loc i) (m ∷ loc at) ≡ true) ⊎ ((c : ℕ) × (child i k ≡ Some c) × (below l (loc c) ≡ true))
through_other n loc child at i m k l t lt lti other b h =
    by_case (below-compared l (loc i) (loc at) (below-parent l (loc i) k h) (below-parent l (loc at) m b))
  where
    lower : (loc i ≡ loc at) ⊎ ((x : List ℕ) × (below (loc i) (x ∷ loc at) ≡ true)) → below (loc i) (m ∷ loc at) ≡ true
    lower (inl e) = absurd (other (t.distinct i at lti lt e))
    lower (inr w) =
        let one : w.0 ≡ m = below-one_name l (loc at) w.0 m (below-through l (loc i) (w.0 ∷ loc at)
        (below-parent l (loc i) k h) w.1) b in
        rw (← one) w.1

    upper : (loc at ≡ loc i) ⊎ ((x : List ℕ) × (below (loc at) (x ∷ loc i) ≡ true)) → (c : ℕ) × (child i k ≡ Some c)
        × (below l (loc c) ≡ true)
    upper (inl e) = absurd (other (t.distinct i at lti lt (sym e)))
    upper (inr w) =
        let one : w.0 ≡ k = below-one_name l (loc i) w.0 k (below-through l (loc at) (w.0 ∷ loc i)
        (below-parent l (loc at) m b) w.1) h in
        let way = t.routed i at k lti lt (rw (← one) w.1) in
        (way.0, way.1, below-through l (loc at) (loc way.0) (below-parent l (loc at) m b) way.2)

    by_case : (below (loc i) (loc at) ≡ true) ⊎ (below (loc at) (loc i) ≡ true) → (below (loc i) (m ∷ loc at) ≡ true)
        ⊎ ((c : ℕ) × (child i k ≡ Some c) × (below l (loc c) ≡ true))
    by_case (inl w) = inl (lower (below-next (loc i) (loc at) w))
    by_case (inr w) = inr (upper (below-next (loc at) (loc i) w))

pub attached : (n : ℕ) (loc loc' : ℕ → Path) (child child' : ℕ → List ℕ → Option ℕ) (at : ℕ) (m : List ℕ) (l : Path)
    → IsTrie n loc child → at < n → IsPath l → below l (m ∷ loc at) ≡ true → child at m ≡ None
    → IsAttached n loc loc' child child' at m l → IsTrie (suc n) loc' child'
attached n loc loc' child child' at m l t lt path b free a = record {
  root = a.same 0 (omega arith) ∙ t.root;
  paths = λ i. paths_at i (is_place i n);
  distinct = λ i j lti ltj e. distinct_at i j lti ltj e (is_place i n) (is_place j n);
  leads = λ i c k e. leads_at i c k e (is_place i at) (is_name m k);
  routed = λ i j k lti ltj h. routed_at i j k lti ltj h (is_place i n) (is_place j n);
}
  where
    fresh : (j : ℕ) → j < n → below (loc j) (m ∷ loc at) ≡ true → ⊥
    fresh j ltj h = let way = t.routed at j m lt ltj h in let no : Some way.0 ≡ None = sym way.1 ∙ free in cc

    paths_at : (i : ℕ) → (i ≡ n) ⊎ (i ≢ n) → IsPath (loc' i)
    paths_at i (inl e) = rw (e, a.made) path
    paths_at i (inr e) = rw (a.same i e) (t.paths i)

    distinct_at : (i j : ℕ) → i < suc n → j < suc n → loc' i ≡ loc' j → (i ≡ n) ⊎ (i ≢ n) → (j ≡ n) ⊎ (j ≢ n) → i ≡ j
    distinct_at i j lti ltj e (inl p) (inl q) = p ∙ sym q
    distinct_at i j lti ltj e (inl p) (inr q) =
        let there : l ≡ loc j = sym a.made ∙ ap loc' (sym p) ∙ e ∙ a.same j q in
        absurd (fresh j (omega arith) (rw (← there) b))
    distinct_at i j lti ltj e (inr p) (inl q) =
        let there : l ≡ loc i = sym a.made ∙ ap loc' (sym q) ∙ sym e ∙ a.same i p in
        absurd (fresh i (omega arith) (rw (← there) b))
    distinct_at i j lti ltj e (inr p) (inr q) =
        t.distinct i j (omega arith) (omega arith) (sym (a.same i p) ∙ e ∙ a.same j q)

    leads_on : (i c : ℕ) (k : List ℕ) → child i k ≡ Some c → (i < suc n) × (c < suc n)
        × (below (loc' c) (k ∷ loc' i) ≡ true)
    leads_on i c k e =
        let w = t.leads i c k e in
        let here : i ≢ n = omega (arith, w.0) in
        let there : c ≢ n = omega (arith, w.1) in
        (omega (arith, w.0), omega (arith, w.1), rw (a.same i here, a.same c there) w.2)

    leads_at : (i c : ℕ) (k : List ℕ) → child' i k ≡ Some c → (i ≡ at) ⊎ (i ≢ at) → ((bytes_eq m k ≡ true) × (m ≡ k))
        ⊎ (bytes_eq m k ≡ false) → (i < suc n) × (c < suc n) × (below (loc' c) (k ∷ loc' i) ≡ true)
    leads_at i c k e (inr p) q = leads_on i c k (sym (a.others i p k) ∙ e)
    leads_at i c k e (inl p) (inr q) = let w = rw (p, a.way k, q) at e in rw p (leads_on at c k w)
    leads_at i c k e (inl p) (inl q) =
        let w = rw (p, a.way k, q.0) at e in
        let there : n ≡ c = cc in
        let here : at ≢ n = omega arith in
        (omega arith, omega arith, rw (← there, p, a.made, a.same at here, ← q.1) b)

    kept : (i c : ℕ) (k : List ℕ) → child i k ≡ Some c → child' i k ≡ Some c
    kept i c k e = by_case (is_place i at) (is_name m k)
      where
        by_case : (i ≡ at) ⊎ (i ≢ at) → ((bytes_eq m k ≡ true) × (m ≡ k)) ⊎ (bytes_eq m k ≡ false) → child' i k ≡ Some c
        by_case (inr p) q = a.others i p k ∙ e
        by_case (inl p) (inr q) = rw (p, a.way k, q, ← p) e
        by_case (inl p) (inl q) = absurd (let no : None ≡ Some c = sym free ∙ rw (p, ← q.1) at e in cc)

    routed_at : (i j : ℕ) (k : List ℕ) → i < suc n → j < suc n → below (loc' j) (k ∷ loc' i) ≡ true → (i ≡ n) ⊎ (i ≢ n)
        → (j ≡ n) ⊎ (j ≢ n) → (c : ℕ) × (child' i k ≡ Some c) × (below (loc' j) (loc' c) ≡ true)
    routed_at i j k lti ltj h (inl p) (inl q) =
        absurd (below-child_of_it l k (below_moved (loc' j) l (loc' i) l k (ap loc' q ∙ a.made) (ap loc' p ∙ a.made) h))
    routed_at i j k lti ltj h (inl p) (inr q) =
        let lower = below_moved (loc' j) (loc j) (loc' i) l k (a.same j q) (ap loc' p ∙ a.made) h in
        absurd (fresh j (omega arith) (below-through (loc j) l (m ∷ loc at) (below-parent (loc j) l k lower) b))
    routed_at i j k lti ltj h (inr p) (inr q) =
        let way = t.routed i j k (omega arith) (omega arith)
        (below_moved (loc' j) (loc j) (loc' i) (loc i) k (a.same j q) (a.same i p) h) in
        let lead = t.leads i way.0 k way.1 in
        let there : way.0 ≢ n = omega (arith, lead.1) in (
          way.0,
          kept i way.0 k way.1,
          below_both (loc' j) (loc j) (loc' way.0) (loc way.0) (a.same j q)
              (a.same way.0 there) way.2,
        )
    routed_at i j k lti ltj h (inr p) (inl q) =
        rw (q, a.made) (new_way (below_moved (loc' j) l (loc' i) (loc i) k (ap loc' q ∙ a.made) (a.same i p) h)
        (is_place i at))
      where
        new_way : below l (k ∷ loc i) ≡ true → (i ≡ at) ⊎ (i ≢ at) → (c : ℕ) × (child' i k ≡ Some c)
            × (below l (loc' c) ≡ true)
        new_way g (inl r) =
            let one : m ≡ k = below-one_name l (loc at) m k b (rw r at g) in
            (n, rw (r, a.way k, ← one, same_name m) refl, rw a.made (below-same l))
        new_way g (inr r) = by_case (through_other n loc child at i m k l t lt (omega arith) r b g)
          where
            by_case : (below (loc i) (m ∷ loc at) ≡ true) ⊎ ((c : ℕ) × (child i k ≡ Some c) × (below l (loc c) ≡ true))
                → (c : ℕ) × (child' i k ≡ Some c) × (below l (loc' c) ≡ true)
            by_case (inl w) = absurd (fresh i (omega arith) w)
            by_case (inr w) =
                let lead = t.leads i w.0 k w.1 in
                let there : w.0 ≢ n = omega (arith, lead.1) in
                (w.0, kept i w.0 k w.1, rw (a.same w.0 there) w.2)

pub parted : (n : ℕ) (loc loc' : ℕ → Path) (child child' : ℕ → List ℕ → Option ℕ) (at : ℕ) (m : List ℕ) (l : Path)
    (m' : List ℕ) (c : ℕ) → IsTrie n loc child → IsPath l → child at m ≡ Some c → below l (m ∷ loc at) ≡ true
    → below (loc c) (m' ∷ l) ≡ true
    → IsParted n loc loc' child child' at m l (λ k. cond (bytes_eq m' k) (Some c) None) → IsTrie (suc n) loc' child'
parted n loc loc' child child' at m l m' c t path e b h a = record {
  root = a.same 0 (omega (arith, (t.leads at c m e).0)) ∙ t.root;
  paths = λ i. paths_at i (is_place i n);
  distinct = λ i j lti ltj same. distinct_at i j lti ltj same (is_place i n) (is_place j n);
  leads = λ i d k is. leads_at i d k is (is_place i n) (is_place i at) (is_name m k) (is_name m' k);
  routed = λ i j k lti ltj g. routed_at i j k lti ltj g (is_place i n) (is_place j n);
}
  where
    lt : at < n
    lt = (t.leads at c m e).0

    ltc : c < n
    ltc = (t.leads at c m e).1

    -- the nodes below the upper one by that name are the lower one and those below it
    inside : (j : ℕ) → j < n → below (loc j) (m ∷ loc at) ≡ true → below (loc j) (loc c) ≡ true
    inside j ltj g =
        let way = t.routed at j m lt ltj g in
        let one : way.0 ≡ c = (let same : Some way.0 ≡ Some c = sym way.1 ∙ e in cc) in
        rw (← one) way.2

    above : below (loc c) l ≡ true
    above = below-parent (loc c) l m' h

    not_inside : (p : Path) → below l p ≡ true → below p (loc c) ≡ true → ⊥
    not_inside p g k = below-child_of_it l m' (below-through l p (m' ∷ l) g (below-through p (loc c) (m' ∷ l) k h))

    paths_at : (i : ℕ) → (i ≡ n) ⊎ (i ≢ n) → IsPath (loc' i)
    paths_at i (inl p) = rw (p, a.made) path
    paths_at i (inr p) = rw (a.same i p) (t.paths i)

    fresh : (j : ℕ) → j < n → l ≡ loc j → ⊥
    fresh j ltj there = not_inside (loc j) (rw (← there) (below-same l)) (inside j ltj (rw (← there) b))

    distinct_at : (i j : ℕ) → i < suc n → j < suc n → loc' i ≡ loc' j → (i ≡ n) ⊎ (i ≢ n) → (j ≡ n) ⊎ (j ≢ n) → i ≡ j
    distinct_at i j lti ltj same (inl p) (inl q) = p ∙ sym q
    distinct_at i j lti ltj same (inl p) (inr q) =
        absurd (fresh j (omega arith) (sym a.made ∙ ap loc' (sym p) ∙ same ∙ a.same j q))
    distinct_at i j lti ltj same (inr p) (inl q) =
        absurd (fresh i (omega arith) (sym a.made ∙ ap loc' (sym q) ∙ sym same ∙ a.same i p))
    distinct_at i j lti ltj same (inr p) (inr q) =
        t.distinct i j (omega arith) (omega arith) (sym (a.same i p) ∙ same ∙ a.same j q)

    leads_on : (i d : ℕ) (k : List ℕ) → child i k ≡ Some d → (i < suc n) × (d < suc n)
        × (below (loc' d) (k ∷ loc' i) ≡ true)
    leads_on i d k is =
        let w = t.leads i d k is in
        let here : i ≢ n = omega (arith, w.0) in
        let there : d ≢ n = omega (arith, w.1) in
        (omega (arith, w.0), omega (arith, w.1), rw (a.same i here, a.same d there) w.2)

    leads_at : (i d : ℕ) (k : List ℕ) → child' i k ≡ Some d → (i ≡ n) ⊎ (i ≢ n) → (i ≡ at) ⊎ (i ≢ at)
        → ((bytes_eq m k ≡ true) × (m ≡ k)) ⊎ (bytes_eq m k ≡ false) → ((bytes_eq m' k ≡ true) × (m' ≡ k))
        ⊎ (bytes_eq m' k ≡ false) → (i < suc n) × (d < suc n) × (below (loc' d) (k ∷ loc' i) ≡ true)
    leads_at i d k is (inl p) r x (inr y) = absurd (let no = rw (p, a.further k, y) at is in cc)
    leads_at i d k is (inl p) r x (inl y) =
        let w = rw (p, a.further k, y.0) at is in
        let there : c ≡ d = cc in
        let lower : c ≢ n = omega (arith, ltc) in
        (omega arith, omega (arith, ltc), rw (← there, p, a.made, a.same c lower, ← y.1) h)
    leads_at i d k is (inr p) (inr r) x y = leads_on i d k (sym (a.others i r p k) ∙ is)
    leads_at i d k is (inr p) (inl r) (inr x) y = let w = rw (r, a.way k, x) at is in rw r (leads_on at d k w)
    leads_at i d k is (inr p) (inl r) (inl x) y =
        let w = rw (r, a.way k, x.0) at is in
        let there : n ≡ d = cc in
        let here : at ≢ n = omega (arith, lt) in
        (omega (arith, lt), omega arith, rw (← there, r, a.made, a.same at here, ← x.1) b)

    -- a child from before is one now, or the new node stands before it
    kept : (i j d : ℕ) (k : List ℕ) → i ≢ n → child i k ≡ Some d → below (loc j) (loc d) ≡ true → (x : ℕ)
        × (child' i k ≡ Some x) × (below (loc j) (loc' x) ≡ true)
    kept i j d k p is g = by_case (is_place i at) (is_name m k)
      where
        there : d ≢ n
        there = omega (arith, (t.leads i d k is).1)

        by_case : (i ≡ at) ⊎ (i ≢ at) → ((bytes_eq m k ≡ true) × (m ≡ k)) ⊎ (bytes_eq m k ≡ false) → (x : ℕ)
            × (child' i k ≡ Some x) × (below (loc j) (loc' x) ≡ true)
        by_case (inr r) x = (d, a.others i r p k ∙ is, rw (a.same d there) g)
        by_case (inl r) (inr x) = (d, rw (r, a.way k, x, ← r) is, rw (a.same d there) g)
        by_case (inl r) (inl x) =
            let one : c ≡ d = (let same : Some c ≡ Some d = sym e ∙ rw (r, ← x.1) at is in cc) in
            (n, rw (r, a.way k, x.0) refl, rw a.made (below-through (loc j) (loc d) l g (rw (← one) above)))

    routed_at : (i j : ℕ) (k : List ℕ) → i < suc n → j < suc n → below (loc' j) (k ∷ loc' i) ≡ true → (i ≡ n) ⊎ (i ≢ n)
        → (j ≡ n) ⊎ (j ≢ n) → (x : ℕ) × (child' i k ≡ Some x) × (below (loc' j) (loc' x) ≡ true)
    routed_at i j k lti ltj g (inl p) (inl q) =
        absurd (below-child_of_it l k (below_moved (loc' j) l (loc' i) l k (ap loc' q ∙ a.made) (ap loc' p ∙ a.made) g))
    routed_at i j k lti ltj g (inl p) (inr q) =
        let lower = below_moved (loc' j) (loc j) (loc' i) l k (a.same j q) (ap loc' p ∙ a.made) g in
        let under = inside j (omega arith) (below-through (loc j) l (m ∷ loc at) (below-parent (loc j) l k lower) b) in
        let one : m' ≡ k = below-one_name (loc j) l m' k (below-through (loc j) (loc c) (m' ∷ l) under h) lower in
        let there : c ≢ n = omega (arith, ltc) in
        (c, rw (p, a.further k, ← one, same_name m') refl, rw (a.same j q, a.same c there) under)
    routed_at i j k lti ltj g (inr p) (inr q) =
        let way = t.routed i j k (omega arith) (omega arith)
        (below_moved (loc' j) (loc j) (loc' i) (loc i) k (a.same j q) (a.same i p) g) in
        rw (a.same j q) (kept i j way.0 k p way.1 way.2)
    routed_at i j k lti ltj g (inr p) (inl q) =
        rw (q, a.made) (new_way (below_moved (loc' j) l (loc' i) (loc i) k (ap loc' q ∙ a.made) (a.same i p) g)
        (is_place i at))
      where
        new_way : below l (k ∷ loc i) ≡ true → (i ≡ at) ⊎ (i ≢ at) → (x : ℕ) × (child' i k ≡ Some x)
            × (below l (loc' x) ≡ true)
        new_way f (inl r) =
            let one : m ≡ k = below-one_name l (loc at) m k b (rw r at f) in
            (n, rw (r, a.way k, ← one, same_name m) refl, rw a.made (below-same l))
        new_way f (inr r) = by_case (through_other n loc child at i m k l t lt (omega arith) r b f)
          where
            by_case : (below (loc i) (m ∷ loc at) ≡ true) ⊎ ((x : ℕ) × (child i k ≡ Some x) × (below l (loc x) ≡ true))
                → (x : ℕ) × (child' i k ≡ Some x) × (below l (loc' x) ≡ true)
            by_case (inl w) = absurd (not_inside (loc i) (below-parent l (loc i) k f) (inside i (omega arith) w))
            by_case (inr w) =
                let there : w.0 ≢ n = omega (arith, (t.leads i w.0 k w.1).1) in
                (w.0, a.others i r p k ∙ w.1, rw (a.same w.0 there) w.2)

-- the locations and ways before the node beside the lower one was made
abbrev before : (n : ℕ) (loc loc' : ℕ → Path) → ℕ → Path
before n loc loc' i = cond (i == suc n) (loc i) (loc' i)

abbrev ways_before : (n : ℕ) (below_it : List ℕ → Option ℕ) (child' : ℕ → List ℕ → Option ℕ) → ℕ → List ℕ → Option ℕ
ways_before n below_it child' i k = cond (i == n) (below_it k) (child' i k)

-- a node put between two others, with one more beside the lower one
pub parted_beside : (n : ℕ) (loc loc' : ℕ → Path) (child child' : ℕ → List ℕ → Option ℕ) (at : ℕ) (m : List ℕ)
    (l : Path) (m' : List ℕ) (c : ℕ) (x : List ℕ) (p : Path) → IsTrie n loc child → IsPath l → IsPath p
    → child at m ≡ Some c → below l (m ∷ loc at) ≡ true → below (loc c) (m' ∷ l) ≡ true → below p (x ∷ l) ≡ true
    → m' ≢ x
    → IsBeside n loc loc' child child' at m l (λ k. cond (bytes_eq m' k) (Some c) None) x p
    → IsTrie (suc (suc n)) loc' child'
parted_beside n loc loc' child child' at m l m' c x p t path path' e b h g apart a =
    attached (suc n) (before n loc loc') loc' (ways_before n (λ k. cond (bytes_eq m' k) (Some c) None) child') child' n
    x p (parted n loc (before n loc loc') child (ways_before n (λ k. cond (bytes_eq m' k) (Some c) None) child') at
    m l m' c t path e b h first) (omega arith) path' (rw at_n g) no_way second
  where
    at_other : (i : ℕ) → i ≢ suc n → (before n loc loc') i ≡ loc' i
    at_other i other = by_case (eqb_tells i (suc n))
      where
        by_case : (((i == suc n) ≡ true) × (i ≡ suc n)) ⊎ (((i == suc n) ≡ false) × (i ≢ suc n))
            → cond (i == suc n) (loc i) (loc' i) ≡ loc' i
        by_case (inl w) = absurd (other w.1)
        by_case (inr w) = rw w.0 refl

    at_n : (before n loc loc') n ≡ l
    at_n = at_other n (omega arith) ∙ a.made

    on_n : (k : List ℕ) → (ways_before n (λ k. cond (bytes_eq m' k) (Some c) None) child') n k ≡ cond (bytes_eq m' k)
        (Some c) None
    on_n k = by_case (eqb_tells n n)
      where
        by_case : (((n == n) ≡ true) × (n ≡ n)) ⊎ (((n == n) ≡ false) × (n ≢ n))
            → cond (n == n) (cond (bytes_eq m' k) (Some c) None) (child' n k) ≡ cond (bytes_eq m' k) (Some c) None
        by_case (inl w) = rw w.0 refl
        by_case (inr w) = absurd (w.1 refl)

    on_other : (i : ℕ) → i ≢ n → (k : List ℕ)
        → (ways_before n (λ k. cond (bytes_eq m' k) (Some c) None) child') i k ≡ child' i k
    on_other i other k = by_case (eqb_tells i n)
      where
        by_case : (((i == n) ≡ true) × (i ≡ n)) ⊎ (((i == n) ≡ false) × (i ≢ n))
            → cond (i == n) (cond (bytes_eq m' k) (Some c) None) (child' i k) ≡ child' i k
        by_case (inl w) = absurd (other w.1)
        by_case (inr w) = rw w.0 refl

    lt : at ≢ n
    lt = omega (arith, (t.leads at c m e).0)

    no_way : (ways_before n (λ k. cond (bytes_eq m' k) (Some c) None) child') n x ≡ None
    no_way = on_n x ∙ by_case (is_name m' x)
      where
        by_case : ((bytes_eq m' x ≡ true) × (m' ≡ x)) ⊎ (bytes_eq m' x ≡ false)
            → cond (bytes_eq m' x) (Some c) None ≡ None
        by_case (inl w) = absurd (apart w.1)
        by_case (inr w) = rw w refl

    same_at : (i : ℕ) → i ≢ n → (before n loc loc') i ≡ loc i
    same_at i other = by_case (eqb_tells i (suc n))
      where
        by_case : (((i == suc n) ≡ true) × (i ≡ suc n)) ⊎ (((i == suc n) ≡ false) × (i ≢ suc n))
            → cond (i == suc n) (loc i) (loc' i) ≡ loc i
        by_case (inl w) = rw w.0 refl
        by_case (inr w) = rw w.0 (a.same i other w.1)

    first : IsParted n loc (before n loc loc') child (ways_before n (λ k. cond (bytes_eq m' k) (Some c) None) child') at
        m l (λ k. cond (bytes_eq m' k) (Some c) None)
    first = record {
      same = same_at;
      made = at_n;
      way = λ k. on_other at lt k ∙ a.way k;
      further = on_n;
      others = λ i q r k. on_other i r k ∙ a.others i q r k;
    }

    second : IsAttached (suc n) (before n loc loc') loc' (ways_before n (λ k. cond (bytes_eq m' k) (Some c) None)
        child') child' n x p
    second = record {
      same = λ i q. sym (at_other i q);
      made = a.made_beside;
      way = λ k. a.further k ∙ ap (λ o. cond (bytes_eq x k) (Some (suc n)) o) (sym (on_n k));
      others = λ i q k. sym (on_other i q k);
    }
