-- The places where parts end are those that a tree's parts have.
use Rattle.std.proofs.Common.{
  ◌≡◌,
  ℕ,
  zero,
  suc,
  ◌+◌,
  ◌-◌,
  ◌<◌,
  ◌≤◌,
  Bool,
  true,
  false,
  not,
  cond,
  ◌&&◌,
  List,
  [],
  ◌∷◌,
  ◌++◌,
  ◌⊎◌,
  inl,
  inr,
  length,
  Option,
  Some,
  None,
  refl,
  sym,
  subst,
  ◌∙◌,
  arith,
}
use Rattle.std.specs.Prelude.{◌==◌, ◌||◌, ◌↔◌, nat_lt, nat_le, min, slice_index, flat_map, IsTrue}
use Rattle.std.proofs.lemmas.Bool.{and_parts, eq-eqb, eqb-true, lt-ltb, ltb-true, leb-true, le-leb, false≢true}
use Rattle.es_pattern.specs.Tree.{
  Tree,
  nothing,
  one_of,
  text_start,
  text_end,
  word_boundary,
  sequence,
  choice,
  repetition,
  lookahead,
}
use Rattle.es_pattern.specs.Spans.{Spans, Chain, IsFound, IsUpTo, differs, fits, is_boundary}
use Rattle.es_pattern.specs.Found.{
  has_place,
  place_if,
  after_links,
  up_to_links,
  repeated,
  ends,
  begins_up_to,
  is_found,
}
use Rattle.es_pattern.specs.Laws.{FoundTells}
use Rattle.es_pattern.proofs.Walking.{chain_joined, chain_split}
use Rattle.es_pattern.proofs.NumberTests.{lt_or_same}

-- ---- chains

-- a link that stays, or leads further within the text
abbrev Onward : ℕ → ℕ → ℕ → Type 0
Onward size i j = (i ≡ j) ⊎ ((i < j) × (j ≤ size))

onward_then : (size i x j : ℕ) → Onward size i x → Onward size x j → Onward size i j
onward_then size i x j (inl e) further = subst (λ (y : ℕ). Onward size y j) (sym e) further
onward_then size i x j (inr (lt, le)) (inl e) = inr (omega (arith, lt, e), omega (arith, le, e))
onward_then size i x j (inr (lt, le)) (inr (further, within)) = inr (omega (arith, lt, further), within)

-- a chain with no more links than the text has characters
record Shortened (R : ℕ → ℕ → Type 0) (size n i j : ℕ) : Type 0 where
  links : ℕ
  fewer : links ≤ n
  within : links ≤ size
  further : links + i ≤ j
  onward : Onward size i j
  chain : Chain R links i j

module _ (R : ℕ → ℕ → Type 0) (size : ℕ) (leads : (i j : ℕ) → R i j → Onward size i j) where
  with_link : (n i x j : ℕ) → R i x → Onward size i x → Shortened R size n x j → Shortened R size (suc n) i j
  with_link n i x j r (inl e) s = record {
    links = s.links;
    fewer = omega (arith, s.fewer);
    within = s.within;
    further = omega (arith, s.further, e);
    onward = onward_then size i x j (inl e) s.onward;
    chain = subst (λ (y : ℕ). Chain R s.links y j) (sym e) s.chain;
  }
  with_link n i x j r (inr (lt, le)) s = record {
    links = suc s.links;
    fewer = omega (arith, s.fewer);
    within = by_rest s.onward;
    further = omega (arith, s.further, lt);
    onward = onward_then size i x j (inr (lt, le)) s.onward;
    chain = (x, r, s.chain);
  }
    where
      by_rest : Onward size x j → suc s.links ≤ size
      by_rest (inl e) = omega (arith, s.further, lt, le, e)
      by_rest (inr (more, end_)) = omega (arith, s.further, lt, more, end_)

  shortened : (n i j : ℕ) → Chain R n i j → Shortened R size n i j
  shortened zero i j e = record {
    links = 0;
    fewer = omega arith;
    within = omega arith;
    further = omega (arith, e);
    onward = inl e;
    chain = e;
  }
  shortened (suc n) i j c = with_link n i c.0 j c.1 (leads i c.0 c.1) (shortened n c.0 j c.2)

chain_onward : (R : ℕ → ℕ → Type 0) (size : ℕ) → ((i j : ℕ) → R i j → Onward size i j) → (n i j : ℕ) → Chain R n i j
    → Onward size i j
chain_onward R size leads n i j c = let s = shortened R size leads n i j c in s.onward

spans_onward : (t : Tree) (text : List ℕ) (i j : ℕ) → Spans t text i j → Onward (length text) i j
spans_onward nothing text i j s = inl s
spans_onward (one_of negated ranges) text i j s = inr (omega (arith, s.1), omega (arith, s.0, s.1))
spans_onward text_start text i j s = inl s.0
spans_onward text_end text i j s = inl s.0
spans_onward (word_boundary negated) text i j s = inl s.0
spans_onward (sequence a b) text i j s =
    onward_then (length text) i s.0 j (spans_onward a text i s.0 s.1) (spans_onward b text s.0 j s.2)
spans_onward (choice a b) text i j (inl s) = spans_onward a text i j s
spans_onward (choice a b) text i j (inr s) = spans_onward b text i j s
spans_onward (repetition least most a) text i j s =
    chain_onward (Spans a text) (length text) (λ k l r. spans_onward a text k l r) s.0 i j s.3
spans_onward (lookahead true a) text i j s = inl s.0
spans_onward (lookahead false a) text i j s = inl s.0

-- ---- lists of places

-- the place is one of the list's
abbrev In : List ℕ → ℕ → Type 0
In [] j = ⊥
In (x ∷ xs) j = (x ≡ j) ⊎ In xs j

in_left : (xs ys : List ℕ) (j : ℕ) → In xs j → In (xs ++ ys) j
in_left [] ys j h = absurd h
in_left (x ∷ xs) ys j (inl e) = inl e
in_left (x ∷ xs) ys j (inr h) = inr (in_left xs ys j h)

in_right : (xs ys : List ℕ) (j : ℕ) → In ys j → In (xs ++ ys) j
in_right [] ys j h = h
in_right (x ∷ xs) ys j h = inr (in_right xs ys j h)

in_either : (xs ys : List ℕ) (j : ℕ) → In (xs ++ ys) j → In xs j ⊎ In ys j
in_either [] ys j h = inr h
in_either (x ∷ xs) ys j (inl e) = inl (inl e)
in_either (x ∷ xs) ys j (inr h) = by_rest (in_either xs ys j h)
  where
    by_rest : In xs j ⊎ In ys j → In (x ∷ xs) j ⊎ In ys j
    by_rest (inl k) = inl (inr k)
    by_rest (inr k) = inr k

in_all : (f : ℕ → List ℕ) (xs : List ℕ) (x j : ℕ) → In xs x → In (f x) j → In (flat_map f xs) j
in_all f [] x j h k = absurd h
in_all f (y ∷ xs) x j (inl e) k = in_left (f y) (flat_map f xs) j (subst (λ (z : ℕ). In (f z) j) (sym e) k)
in_all f (y ∷ xs) x j (inr h) k = in_right (f y) (flat_map f xs) j (in_all f xs x j h k)

in_some : (f : ℕ → List ℕ) (xs : List ℕ) (j : ℕ) → In (flat_map f xs) j → (x : ℕ) × In xs x × In (f x) j
in_some f [] j h = absurd h
in_some f (y ∷ xs) j h = by_part (in_either (f y) (flat_map f xs) j h) (λ k. in_some f xs j k)
  where
    by_part : In (f y) j ⊎ In (flat_map f xs) j → (In (flat_map f xs) j → (x : ℕ) × In xs x × In (f x) j) → (x : ℕ)
        × In (y ∷ xs) x × In (f x) j
    by_part (inl k) again = (y, inl refl, k)
    by_part (inr k) again = let s = again k in (s.0, inr s.1, s.2)

-- the place itself
in_one : (i j : ℕ) → In (i ∷ []) j → i ≡ j
in_one i j (inl e) = e
in_one i j (inr h) = absurd h

in_place_if : (b : Bool) (i j : ℕ) → In (place_if b i) j → (b ≡ true) × (i ≡ j)
in_place_if true i j h = (refl, in_one i j h)
in_place_if false i j h = absurd h

place_if_in : (b : Bool) (i j : ℕ) → b ≡ true → i ≡ j → In (place_if b i) j
place_if_in b i j h e = rw h (inl e)

some_place : (xs : List ℕ) → has_place xs ≡ true → (x : ℕ) × In xs x
some_place [] h = absurd (false≢true h)
some_place (x ∷ xs) h = (x, inl refl)

place_there : (xs : List ℕ) (x : ℕ) → In xs x → has_place xs ≡ true
place_there [] x h = absurd h
place_there (y ∷ xs) x h = refl

no_place : (xs : List ℕ) (x : ℕ) → has_place xs ≡ false → In xs x → ⊥
no_place xs x none h = false≢true (sym none ∙ place_there xs x h)

-- ---- chains of links

module _ (next : ℕ → List ℕ) (R : ℕ → ℕ → Type 0) (links : (i j : ℕ) → In (next i) j ↔ R i j) where
  after_links_lead : (n : ℕ) (ps : List ℕ) (j : ℕ) → In (after_links next n ps) j → (i : ℕ) × In ps i × Chain R n i j
  after_links_lead zero ps j h = (j, h, refl)
  after_links_lead (suc n) ps j h =
      let s = after_links_lead n (flat_map next ps) j h in
      let p = in_some next ps s.0 s.1 in
      (p.0, p.1, (s.0, (links p.0 s.0).0 p.2, s.2))

  lead_after_links : (n : ℕ) (ps : List ℕ) (i j : ℕ) → In ps i → Chain R n i j → In (after_links next n ps) j
  lead_after_links zero ps i j h e = subst (λ (y : ℕ). In ps y) e h
  lead_after_links (suc n) ps i j h c =
      lead_after_links n (flat_map next ps) c.0 j (in_all next ps i c.0 h ((links i c.0).1 c.1)) c.2

  up_to_links_lead : (n : ℕ) (ps : List ℕ) (j : ℕ) → In (up_to_links next n ps) j → (k : ℕ) × (k ≤ n)
      × ((i : ℕ) × In ps i × Chain R k i j)
  up_to_links_lead zero ps j h = (0, omega arith, (j, h, refl))
  up_to_links_lead (suc n) ps j h = by_part (in_either ps (up_to_links next n (flat_map next ps)) j h)
      (λ g. up_to_links_lead n (flat_map next ps) j g)
    where
      by_part : In ps j ⊎ In (up_to_links next n (flat_map next ps)) j
          → (In (up_to_links next n (flat_map next ps)) j → (k : ℕ) × (k ≤ n)
          × ((i : ℕ) × In (flat_map next ps) i × Chain R k i j))
          → (k : ℕ) × (k ≤ suc n) × ((i : ℕ) × In ps i × Chain R k i j)
      by_part (inl g) again = (0, omega arith, (j, g, refl))
      by_part (inr g) again =
          let s = again g in
          let p = in_some next ps s.2.0 s.2.1 in
          (suc s.0, omega (arith, s.1), (p.0, p.1, (s.2.0, (links p.0 s.2.0).0 p.2, s.2.2)))

  lead_up_to_links : (n k : ℕ) (ps : List ℕ) (i j : ℕ) → k ≤ n → In ps i → Chain R k i j → In (up_to_links next n ps) j
  lead_up_to_links zero zero ps i j le h e = subst (λ (y : ℕ). In ps y) e h
  lead_up_to_links (suc n) zero ps i j le h e =
      in_left ps (up_to_links next n (flat_map next ps)) j (subst (λ (y : ℕ). In ps y) e h)
  lead_up_to_links zero (suc k) ps i j le h c = absurd (omega (arith, le))
  lead_up_to_links (suc n) (suc k) ps i j le h c =
      in_right ps (up_to_links next n (flat_map next ps)) j
      (lead_up_to_links n k (flat_map next ps) c.0 j (omega (arith, le)) (in_all next ps i c.0 h ((links i c.0).1 c.1))
      c.2)

  -- chains of at least so many links, and at most so many more
  between_lead : (more least i j : ℕ) → In (up_to_links next more (after_links next least (i ∷ []))) j → (n : ℕ)
      × (least ≤ n) × (n ≤ least + more) × Chain R n i j
  between_lead more least i j h =
      let s = up_to_links_lead more (after_links next least (i ∷ [])) j h in
      let p = after_links_lead least (i ∷ []) s.2.0 s.2.1 in
      let here : p.0 ≡ i = sym (in_one i p.0 p.1) in (
        least + s.0,
        omega arith,
        omega (arith, s.1),
        subst (λ (x : ℕ). Chain R (least + s.0) x j) here (chain_joined R least s.0 p.0 s.2.0 j p.2 s.2.2),
      )

  lead_between : (more least k i x j : ℕ) → k ≤ more → Chain R least i x → Chain R k x j
      → In (up_to_links next more (after_links next least (i ∷ []))) j
  lead_between more least k i x j le c d = lead_up_to_links more k (after_links next least (i ∷ [])) x j le
      (lead_after_links least (i ∷ []) i x (inl refl) c) d

  abbrev Repeats : ℕ → Option ℕ → ℕ → ℕ → Type 0
  Repeats least most i j = (n : ℕ) × (least ≤ n) × IsUpTo most n × Chain R n i j

  repeated_lead : (size least : ℕ) (most : Option ℕ) (i j : ℕ) → In (repeated next size least most i) j
      → Repeats least most i j
  repeated_lead size least None i j h = let s = between_lead size least i j h in (s.0, s.1, tt, s.3)
  repeated_lead size least (Some most) i j h = by_test (nat_le least most) refl h
    where
      by_test : (b : Bool) → nat_le least most ≡ b
          → In (cond b (up_to_links next (min size (most - least)) (after_links next least (i ∷ []))) []) j
          → Repeats least (Some most) i j
      by_test false e g = absurd g
      by_test true e g =
          let s = between_lead (min size (most - least)) least i j g in
          (s.0, s.1, omega (arith, s.2, leb-true least most e), s.3)

  module _ (size : ℕ) (leads : (i j : ℕ) → R i j → Onward size i j) where
    abbrev Split : ℕ → ℕ → ℕ → ℕ → Type 0
    Split least n i j = (x : ℕ) × Chain R least i x × Shortened R size (n - least) x j

    split : (least n i j : ℕ) → least ≤ n → Chain R n i j → Split least n i j
    split least n i j le c =
        let all : n ≡ least + (n - least) = omega (arith, le) in
        let s = chain_split R least (n - least) i j (subst (λ (m : ℕ). Chain R m i j) all c) in
        (s.0, s.1, shortened R size leads (n - least) s.0 j s.2)

    lead_repeated : (least : ℕ) (most : Option ℕ) (i j : ℕ) → Repeats least most i j
        → In (repeated next size least most i) j
    lead_repeated least None i j h =
        let s = split least h.0 i j h.1 h.3 in
        let short = s.2 in
        lead_between size least short.links i s.0 j short.within s.1 short.chain
    lead_repeated least (Some most) i j h =
        let s = split least h.0 i j h.1 h.3 in
        let short = s.2 in
        let room : short.links ≤ min size (most - least) = omega (arith, short.within, short.fewer, h.1, h.2) in
        rw (le-leb least most (omega (arith, h.1, h.2)))
        (lead_between (min size (most - least)) least short.links i s.0 j room s.1 short.chain)

-- ---- the places where parts end

differs_not : (negated b : Bool) → differs negated b ≡ true → b ≡ not negated
differs_not true true h = absurd (false≢true h)
differs_not true false h = refl
differs_not false b h = h

not_differs : (negated b : Bool) → b ≡ not negated → differs negated b ≡ true
not_differs true b h = rw h refl
not_differs false b h = h

both_true : (a b : Bool) → a ≡ true → b ≡ true → a && b ≡ true
both_true a b h k = rw (h, k) refl

empty_place : (xs : List ℕ) → ((x : ℕ) → In xs x → ⊥) → has_place xs ≡ false
empty_place [] none = refl
empty_place (x ∷ xs) none = absurd (none x (inl refl))

either_span : (xs ys : List ℕ) (j : ℕ) (A B : Type 0) → In xs j ↔ A → In ys j ↔ B → In (xs ++ ys) j ↔ (A ⊎ B)
either_span xs ys j A B a b = (λ h. to (in_either xs ys j h), from)
  where
    to : In xs j ⊎ In ys j → A ⊎ B
    to (inl k) = inl (a.0 k)
    to (inr k) = inr (b.0 k)

    from : A ⊎ B → In (xs ++ ys) j
    from (inl s) = in_left xs ys j (a.1 s)
    from (inr s) = in_right xs ys j (b.1 s)

ends_span : (t : Tree) (text : List ℕ) (i j : ℕ) → In (ends t text i) j ↔ Spans t text i j
ends_span nothing text i j = (in_one i j, λ e. inl e)
ends_span (one_of negated ranges) text i j = (to, from)
  where
    to : In (ends (one_of negated ranges) text i) j → Spans (one_of negated ranges) text i j
    to h =
        let p = in_place_if (nat_lt i (length text) && fits negated ranges (slice_index text i)) (i + 1) j h in
        let q = and_parts (nat_lt i (length text)) (fits negated ranges (slice_index text i)) p.0 in
        (ltb-true i (length text) q.0, sym p.1, q.1)

    from : Spans (one_of negated ranges) text i j → In (ends (one_of negated ranges) text i) j
    from s = place_if_in (nat_lt i (length text) && fits negated ranges (slice_index text i)) (i + 1) j
        (both_true (nat_lt i (length text)) (fits negated ranges (slice_index text i)) (lt-ltb i (length text) s.0) s.2)
        (sym s.1)
ends_span text_start text i j = (
  λ h. let p = in_place_if (i == 0) i j h in (p.1, eqb-true i 0 p.0),
  λ s. place_if_in (i == 0) i j (eq-eqb i 0 s.1) s.0,
)
ends_span text_end text i j = (
  λ h. let p = in_place_if (i == length text) i j h in (p.1, eqb-true i (length text) p.0),
  λ s. place_if_in (i == length text) i j (eq-eqb i (length text) s.1) s.0,
)
ends_span (word_boundary negated) text i j = (
  λ h. let p =
      in_place_if (differs negated (is_boundary text i)) i j h in (p.1, differs_not negated (is_boundary text i) p.0),
  λ s. place_if_in (differs negated (is_boundary text i)) i j (not_differs negated (is_boundary text i) s.1) s.0,
)
ends_span (sequence a b) text i j = (
  λ h. let s = in_some (ends b text) (ends a text i) j h in
      (s.0, (ends_span a text i s.0).0 s.1, (ends_span b text s.0 j).0 s.2),
  λ s. in_all (ends b text) (ends a text i) s.0 j ((ends_span a text i s.0).1 s.1) ((ends_span b text s.0 j).1 s.2),
)
ends_span (choice a b) text i j = either_span (ends a text i) (ends b text i) j (Spans a text i j) (Spans b text i j)
    (ends_span a text i j) (ends_span b text i j)
ends_span (repetition least most a) text i j = (
  repeated_lead (ends a text) (Spans a text) (λ k l. ends_span a text k l) (length text) least most i j,
  lead_repeated (ends a text) (Spans a text) (λ k l. ends_span a text k l) (length text)
      (λ k l r. spans_onward a text k l r) least most i j,
)
ends_span (lookahead false a) text i j = (
  λ h. let p = in_place_if (has_place (ends a text i)) i j h in let s = some_place (ends a text i) p.0 in
      (p.1, (s.0, (ends_span a text i s.0).0 s.1)),
  λ s. place_if_in (has_place (ends a text i)) i j (place_there (ends a text i) s.1.0
      ((ends_span a text i s.1.0).1 s.1.1)) s.0,
)
ends_span (lookahead true a) text i j = (
  λ h. let p = in_place_if (differs true (has_place (ends a text i))) i j h in (
    p.1,
    λ x s. no_place (ends a text i) x (differs_not true (has_place (ends a text i)) p.0)
        ((ends_span a text i x).1 s),
  ),
  λ s. place_if_in (differs true (has_place (ends a text i))) i j
      (not_differs true (has_place (ends a text i)) (empty_place (ends a text i)
      (λ x h. s.1 x ((ends_span a text i x).0 h)))) s.0,
)

-- ---- the whole

or_cases : (a b : Bool) → a || b ≡ true → (a ≡ true) ⊎ (b ≡ true)
or_cases true b h = inl refl
or_cases false b h = inr h

or_first : (a b : Bool) → a ≡ true → a || b ≡ true
or_first a b h = rw h refl

or_second : (a b : Bool) → b ≡ true → a || b ≡ true
or_second true b h = refl
or_second false b h = h

begins_found : (f : ℕ → List ℕ) (n : ℕ) → begins_up_to f n ≡ true → (i : ℕ) × (i ≤ n) × (has_place (f i) ≡ true)
begins_found f zero h = (0, omega arith, h)
begins_found f (suc n) h = by_part (or_cases (has_place (f (suc n))) (begins_up_to f n) h) (λ g. begins_found f n g)
  where
    by_part : (has_place (f (suc n)) ≡ true) ⊎ (begins_up_to f n ≡ true)
        → (begins_up_to f n ≡ true → (i : ℕ) × (i ≤ n) × (has_place (f i) ≡ true)) → (i : ℕ) × (i ≤ suc n)
        × (has_place (f i) ≡ true)
    by_part (inl g) again = (suc n, omega arith, g)
    by_part (inr g) again = let s = again g in (s.0, omega (arith, s.1), s.2)

found_begins : (f : ℕ → List ℕ) (n i : ℕ) → i ≤ n → has_place (f i) ≡ true → begins_up_to f n ≡ true
found_begins f zero i le h = let e : i ≡ 0 = omega (arith, le) in subst (λ (k : ℕ). has_place (f k) ≡ true) e h
found_begins f (suc n) i le h = by_order (lt_or_same i (suc n) le) (λ below. found_begins f n i below h)
  where
    by_order : (i < suc n) ⊎ (i ≡ suc n) → (i ≤ n → begins_up_to f n ≡ true) → begins_up_to f (suc n) ≡ true
    by_order (inl lt) again = or_second (has_place (f (suc n))) (begins_up_to f n) (again (omega (arith, lt)))
    by_order (inr e) again =
        or_first (has_place (f (suc n))) (begins_up_to f n) (subst (λ (k : ℕ). has_place (f k) ≡ true) e h)

pub found_tells : FoundTells
unfolding is_found
found_tells tree text = (to, from)
  where
    to : IsTrue (begins_up_to (ends tree text) (length text)) → IsFound tree text
    to h =
        let b = begins_found (ends tree text) (length text) h in
        let s = some_place (ends tree text b.0) b.2 in
        (b.0, s.0, b.1, (ends_span tree text b.0 s.0).0 s.1)

    from : IsFound tree text → IsTrue (begins_up_to (ends tree text) (length text))
    from (i, j, le, s) = found_begins (ends tree text) (length text) i le
        (place_there (ends tree text i) j ((ends_span tree text i j).1 s))
