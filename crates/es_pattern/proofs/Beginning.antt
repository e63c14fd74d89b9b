-- What a pattern may begin with after the text's start.
use Rattle.std.proofs.Common.{
  ◌≡◌,
  ℕ,
  zero,
  suc,
  ◌+◌,
  ◌<◌,
  ◌≤◌,
  Bool,
  true,
  false,
  List,
  [],
  ◌∷◌,
  ◌++◌,
  ◌⊎◌,
  inl,
  inr,
  length,
  map,
  take,
  Option,
  Some,
  None,
  add-one,
  refl,
  sym,
  ap,
  subst,
  ◌∙◌,
  arith,
}
use Rattle.std.specs.Prelude.{reverse, slice_get, slice_index, nat_lt, nat_le, min, ◌||◌, ◌&&◌, ◌==◌}
use Rattle.std.proofs.lemmas.Bool.{and_parts, eq-eqb, ne_eqb, le-leb, leb-true, lt-ltb, false≢true}
use Rattle.std.proofs.lemmas.Option.{slice_get-get_or, slice_get_past}
use Rattle.std.proofs.lemmas.List.{reverse-append, append-nil, nil_from_length}
use Rattle.es_pattern.specs.declared.begins.Begin.{Begin}
use Rattle.es_pattern.specs.declared.piece.Piece.{Piece}
use Rattle.es_pattern.specs.declared.piece.Piece.TheVariants.{
  Nothing,
  OneOf,
  TextStart,
  TextEnd,
  WordBoundary,
  Sequence,
  Choice,
  Repetition,
  Lookahead,
}
use Rattle.es_pattern.specs.Tree.{
  Tree,
  CharRange,
  nothing,
  one_of,
  text_start,
  text_end,
  word_boundary,
  sequence,
  choice,
  repetition,
  lookahead,
}
use Rattle.es_pattern.specs.Spans.{Spans, Chain, fits}
use Rattle.es_pattern.specs.Pieces.{top, below, with_piece, with_pieces, tree_of}
use Rattle.es_pattern.proofs.NumberTests.{lt_or_le, lt_or_same}
use Rattle.es_pattern.specs.Begins.{
  may_stay,
  may_take,
  top_begin,
  begins_below,
  with_begin,
  with_begins,
  takes_at,
  may_begin,
  NoneBegins,
}

-- the stack
pub popped_some : (old new : List Begin) (b : Begin) → old ≡ new ++ b ∷ [] → (b ≡ top_begin (reverse old))
    × (reverse new ≡ begins_below (reverse old))
popped_some old new b e =
    let s = ap reverse e ∙ reverse-append new (b ∷ []) in (sym (ap top_begin s), sym (ap begins_below s))

pub popped_none : (old new : List Begin) → length old ≡ 0 → old ≡ new ++ []
    → (record { stays = true; takes = false } ≡ top_begin (reverse old)) × (reverse new ≡ begins_below (reverse old))
popped_none old new l e =
    let empty = nil_from_length old l in
    let same : new ≡ old = sym (append-nil new) ∙ sym e in (
      sym (ap (λ (bs : List Begin). top_begin (reverse bs)) empty),
      ap reverse (same ∙ empty)
          ∙ sym (ap (λ (bs : List Begin). begins_below (reverse bs)) empty),
    )

pub pushed : (old new : List Begin) (b : Begin) → new ≡ old ++ b ∷ [] → reverse new ≡ b ∷ reverse old
pushed old new b e = ap reverse e ∙ reverse-append old (b ∷ [])

-- the pieces of a part, and what its tree may do
abbrev tree_begin : ℕ → Tree → Begin
tree_begin c t = record { stays = may_stay t; takes = may_take t c }

top_is : (c : ℕ) (ts : List Tree) → top_begin (map (tree_begin c) ts) ≡ tree_begin c (top ts)
top_is c [] = refl
top_is c (t ∷ ts) = refl

below_is : (c : ℕ) (ts : List Tree) → begins_below (map (tree_begin c) ts) ≡ map (tree_begin c) (below ts)
below_is c [] = refl
below_is c (t ∷ ts) = refl

piece_is : (c : ℕ) (p : Piece) (ts : List Tree)
    → with_begin c p (map (tree_begin c) ts) ≡ map (tree_begin c) (with_piece p ts)
piece_is c Nothing ts = refl
piece_is c (OneOf negated ranges) ts = refl
piece_is c TextStart ts = refl
piece_is c TextEnd ts = refl
piece_is c (WordBoundary negated) ts = refl
piece_is c Sequence [] = refl
piece_is c Sequence (t ∷ []) = refl
piece_is c Sequence (t ∷ s ∷ ts) = refl
piece_is c Choice [] = refl
piece_is c Choice (t ∷ []) = refl
piece_is c Choice (t ∷ s ∷ ts) = refl
piece_is c (Repetition least more) [] = refl
piece_is c (Repetition least more) (t ∷ ts) = refl
piece_is c (Lookahead negated) [] = refl
piece_is c (Lookahead negated) (t ∷ ts) = refl

-- what the pieces so far come to
pub begins_more : (c : ℕ) (pieces : List Piece) (number : ℕ) (p : Piece) (bs : List Begin)
    → slice_get pieces number ≡ Some p → with_begins c (take (number + 1) pieces) bs ≡ with_begin c p
    (with_begins c (take number pieces) bs)
begins_more c pieces number p bs h = rw add-one (from_more pieces number bs h)
  where
    from_more : (ps : List Piece) (n : ℕ) (bs : List Begin) → slice_get ps n ≡ Some p
        → with_begins c (take (suc n) ps) bs ≡ with_begin c p (with_begins c (take n ps) bs)
    from_more [] n bs h = cc
    from_more (q ∷ ps) zero bs h = let e : q ≡ p = cc in ap (λ (r : Piece). with_begin c r bs) e
    from_more (q ∷ ps) (suc n) bs h = from_more ps n (with_begin c q bs) h

pub pieces_are : (c : ℕ) (pieces : List Piece) (ts : List Tree)
    → with_begins c pieces (map (tree_begin c) ts) ≡ map (tree_begin c) (with_pieces pieces ts)
pieces_are c [] ts = refl
pieces_are c (p ∷ ps) ts = ap (with_begins c ps) (piece_is c p ts) ∙ pieces_are c ps (with_piece p ts)

pub whole_is : (c : ℕ) (pieces : List Piece) → top_begin (with_begins c pieces []) ≡ tree_begin c (tree_of pieces)
whole_is c pieces = ap top_begin (pieces_are c pieces []) ∙ top_is c (with_pieces pieces [])

-- what is spanned from a place after the text's start is empty, or begins with the character there
or_left : (a b : Bool) → a ≡ true → a || b ≡ true
or_left true b h = refl
or_left false b h = absurd (false≢true h)

or_right : (a b : Bool) → b ≡ true → a || b ≡ true
or_right true b h = refl
or_right false b h = h

and_both : (a b : Bool) → a ≡ true → b ≡ true → a && b ≡ true
and_both true b h g = g
and_both false b h g = absurd (false≢true h)

abbrev BeginsBy : Bool → (ℕ → Bool) → List ℕ → ℕ → ℕ → Type 0
BeginsBy stays takes text i j = ((i ≡ j) × (stays ≡ true)) ⊎ (takes_at takes (slice_get text i) ≡ true)

takes_more : (p q : ℕ → Bool) (o : Option ℕ) → ((c : ℕ) → p c ≡ true → q c ≡ true) → takes_at p o ≡ true
    → takes_at q o ≡ true
takes_more p q None more h = absurd (false≢true h)
takes_more p q (Some c) more h = more (min c 128) h

fits_more : (negated : Bool) (ranges : List CharRange) (c : ℕ) → fits negated ranges c ≡ true → nat_lt 127 (min c 128)
    || fits negated ranges (min c 128) ≡ true
fits_more negated ranges c h = by_order (lt_or_le c 128)
  where
    by_order : (c < 128) ⊎ (128 ≤ c) → nat_lt 127 (min c 128) || fits negated ranges (min c 128) ≡ true
    by_order (inl lt) = let e : c ≡ min c 128 = omega (arith, lt) in
        or_right (nat_lt 127 (min c 128)) (fits negated ranges (min c 128))
        (subst (λ (x : ℕ). fits negated ranges x ≡ true) e h)
    by_order (inr le) =
        or_left (nat_lt 127 (min c 128)) (fits negated ranges (min c 128)) (lt-ltb 127 (min c 128) (omega (arith, le)))

chain_begins : (t : Tree) (text : List ℕ) (n i j : ℕ)
    → ((k l : ℕ) → 0 < k → Spans t text k l → BeginsBy (may_stay t) (may_take t) text k l) → 0 < i
    → Chain (Spans t text) n i j → ((i ≡ j) × (0 < n → may_stay t ≡ true))
    ⊎ (takes_at (may_take t) (slice_get text i) ≡ true)
chain_begins t text zero i j each later c = inl (c, λ lt. absurd (omega (arith, lt)))
chain_begins t text (suc n) i j each later c =
    by_first (each i c.0 later c.1) (λ e. chain_begins t text n c.0 j each (omega (arith, later, e)) c.2)
  where
    by_rest : i ≡ c.0 → may_stay t ≡ true → ((c.0 ≡ j) × (0 < n → may_stay t ≡ true))
        ⊎ (takes_at (may_take t) (slice_get text c.0) ≡ true) → ((i ≡ j) × (0 < suc n → may_stay t ≡ true))
        ⊎ (takes_at (may_take t) (slice_get text i) ≡ true)
    by_rest e stays (inl h) = inl (e ∙ h.0, λ lt. stays)
    by_rest e stays (inr h) = inr (subst (λ (x : ℕ). takes_at (may_take t) (slice_get text x) ≡ true) (sym e) h)

    by_first : BeginsBy (may_stay t) (may_take t) text i c.0
        → (i ≡ c.0 → ((c.0 ≡ j) × (0 < n → may_stay t ≡ true)) ⊎ (takes_at (may_take t) (slice_get text c.0) ≡ true))
        → ((i ≡ j) × (0 < suc n → may_stay t ≡ true)) ⊎ (takes_at (may_take t) (slice_get text i) ≡ true)
    by_first (inr h) rest = inr h
    by_first (inl h) rest = by_rest h.0 h.1 (rest h.0)

pub spans_begins : (t : Tree) (text : List ℕ) (i j : ℕ) → 0 < i → Spans t text i j
    → BeginsBy (may_stay t) (may_take t) text i j
spans_begins nothing text i j later s = inl (s, refl)
spans_begins (one_of negated ranges) text i j later s =
    inr (subst (λ (o : Option ℕ). takes_at (may_take (one_of negated ranges)) o ≡ true)
    (sym (slice_get-get_or text i 0 s.0)) (fits_more negated ranges (slice_index text i) s.2))
spans_begins text_start text i j later s = absurd (omega (arith, s.1, later))
spans_begins text_end text i j later s = inl (s.0, refl)
spans_begins (word_boundary negated) text i j later s = inl (s.0, refl)
spans_begins (sequence a b) text i j later s =
    by_first (spans_begins a text i s.0 later s.1) (λ k lt h. spans_begins b text k j lt h)
  where
    by_second : i ≡ s.0 → may_stay a ≡ true → BeginsBy (may_stay b) (may_take b) text i j
        → BeginsBy (may_stay (sequence a b)) (may_take (sequence a b)) text i j
    by_second e stays (inl h) = inl (h.0, and_both (may_stay a) (may_stay b) stays h.1)
    by_second e stays (inr h) = inr (takes_more (may_take b) (may_take (sequence a b)) (slice_get text i)
        (λ c y. or_right (may_take a c) (may_stay a && may_take b c) (and_both (may_stay a) (may_take b c) stays y)) h)

    by_first : BeginsBy (may_stay a) (may_take a) text i s.0
        → ((k : ℕ) → 0 < k → Spans b text k j → BeginsBy (may_stay b) (may_take b) text k j)
        → BeginsBy (may_stay (sequence a b)) (may_take (sequence a b)) text i j
    by_first (inr h) second = inr (takes_more (may_take a) (may_take (sequence a b)) (slice_get text i)
        (λ c y. or_left (may_take a c) (may_stay a && may_take b c) y) h)
    by_first (inl h) second = by_second h.0 h.1 (second i later (subst (λ (x : ℕ). Spans b text x j) (sym h.0) s.2))
spans_begins (choice a b) text i j later (inl s) = by_one (spans_begins a text i j later s)
  where
    by_one : BeginsBy (may_stay a) (may_take a) text i j
        → BeginsBy (may_stay (choice a b)) (may_take (choice a b)) text i j
    by_one (inl h) = inl (h.0, or_left (may_stay a) (may_stay b) h.1)
    by_one (inr h) = inr (takes_more (may_take a) (may_take (choice a b)) (slice_get text i)
        (λ c y. or_left (may_take a c) (may_take b c) y) h)
spans_begins (choice a b) text i j later (inr s) = by_one (spans_begins b text i j later s)
  where
    by_one : BeginsBy (may_stay b) (may_take b) text i j
        → BeginsBy (may_stay (choice a b)) (may_take (choice a b)) text i j
    by_one (inl h) = inl (h.0, or_right (may_stay a) (may_stay b) h.1)
    by_one (inr h) = inr (takes_more (may_take b) (may_take (choice a b)) (slice_get text i)
        (λ c y. or_right (may_take a c) (may_take b c) y) h)
spans_begins (repetition least most a) text i j later s =
    by_chain (chain_begins a text s.0 i j (λ k l lt h. spans_begins a text k l lt h) later s.3)
  where
    by_least : least ≤ s.0 → (0 < s.0 → may_stay a ≡ true) → (least == 0) || may_stay a ≡ true
    by_least le h = by_order (lt_or_le 0 s.0)
      where
        by_order : (0 < s.0) ⊎ (s.0 ≤ 0) → (least == 0) || may_stay a ≡ true
        by_order (inl lt) = or_right (least == 0) (may_stay a) (h lt)
        by_order (inr none) = or_left (least == 0) (may_stay a) (eq-eqb least 0 (omega (arith, le, none)))

    by_chain : ((i ≡ j) × (0 < s.0 → may_stay a ≡ true)) ⊎ (takes_at (may_take a) (slice_get text i) ≡ true)
        → BeginsBy (may_stay (repetition least most a)) (may_take (repetition least most a)) text i j
    by_chain (inl h) = inl (h.0, by_least s.1 h.1)
    by_chain (inr h) = inr h
spans_begins (lookahead true a) text i j later s = inl (s.0, refl)
spans_begins (lookahead false a) text i j later s = inl (s.0, refl)

pub begins_right : (t : Tree) (text : List ℕ) (i j : ℕ) → i ≤ length text → Spans t text i j → may_begin t text i ≡ true
begins_right t text i j le s = and_both (nat_le i (length text))
    ((i == 0) || (may_stay t || takes_at (may_take t) (slice_get text i))) (le-leb i (length text) le)
    (by_place (lt_or_le 0 i))
  where
    by_begin : BeginsBy (may_stay t) (may_take t) text i j → may_stay t
        || takes_at (may_take t) (slice_get text i) ≡ true
    by_begin (inl h) = or_left (may_stay t) (takes_at (may_take t) (slice_get text i)) h.1
    by_begin (inr h) = or_right (may_stay t) (takes_at (may_take t) (slice_get text i)) h

    by_place : (0 < i) ⊎ (i ≤ 0) → (i == 0) || (may_stay t || takes_at (may_take t) (slice_get text i)) ≡ true
    by_place (inl later) = or_right (i == 0) (may_stay t || takes_at (may_take t) (slice_get text i))
        (by_begin (spans_begins t text i j later s))
    by_place (inr first) =
        or_left (i == 0) (may_stay t || takes_at (may_take t) (slice_get text i)) (eq-eqb i 0 (omega (arith, first)))

-- what may begin with one character may begin with some
takes_some : (t : Tree) (c : ℕ) → may_take t c ≡ true → may_take t 128 ≡ true
takes_some nothing c h = h
takes_some (one_of negated ranges) c h = refl
takes_some text_start c h = h
takes_some text_end c h = h
takes_some (word_boundary negated) c h = h
takes_some (sequence a b) c h =
    by_one (may_take a c) (may_stay a) (may_take b c) (λ y. takes_some a c y) (λ y. takes_some b c y) h
  where
    by_one : (ta sa tb : Bool) → (ta ≡ true → may_take a 128 ≡ true) → (tb ≡ true → may_take b 128 ≡ true) → ta
        || (sa && tb) ≡ true → may_take a 128 || (sa && may_take b 128) ≡ true
    by_one true sa tb p q h = or_left (may_take a 128) (sa && may_take b 128) (p refl)
    by_one false true tb p q h = or_right (may_take a 128) (may_take b 128) (q h)
    by_one false false tb p q h = absurd (false≢true h)
takes_some (choice a b) c h = by_one (may_take a c) (may_take b c) (λ y. takes_some a c y) (λ y. takes_some b c y) h
  where
    by_one : (ta tb : Bool) → (ta ≡ true → may_take a 128 ≡ true) → (tb ≡ true → may_take b 128 ≡ true) → ta
        || tb ≡ true → may_take a 128 || may_take b 128 ≡ true
    by_one true tb p q h = or_left (may_take a 128) (may_take b 128) (p refl)
    by_one false tb p q h = or_right (may_take a 128) (may_take b 128) (q h)
takes_some (repetition least most a) c h = takes_some a c h
takes_some (lookahead negated a) c h = h

pub none_begins : (t : Tree) (text : List ℕ) (k : ℕ) → may_stay t ≡ false → may_take t 128 ≡ false → 0 < k
    → may_begin t text k ≡ true → ⊥
none_begins t text k stays takes later h = by_place (and_parts (nat_le k (length text))
    ((k == 0) || (may_stay t || takes_at (may_take t) (slice_get text k))) h).1
  where
    by_next : (o : Option ℕ) → takes_at (may_take t) o ≡ true → ⊥
    by_next None y = false≢true y
    by_next (Some c) y = false≢true (sym takes ∙ takes_some t (min c 128) y)

    by_begin : (s : Bool) → s ≡ false → s || takes_at (may_take t) (slice_get text k) ≡ true → ⊥
    by_begin true e y = false≢true (sym e)
    by_begin false e y = by_next (slice_get text k) y

    by_place : (k == 0) || (may_stay t || takes_at (may_take t) (slice_get text k)) ≡ true → ⊥
    by_place y = by_begin (may_stay t) stays (subst (λ (b : Bool). b
        || (may_stay t || takes_at (may_take t) (slice_get text k)) ≡ true) (ne_eqb k 0 (λ e. omega (arith, e, later)))
        y)

pub begins_within : (t : Tree) (text : List ℕ) (b : ℕ) → may_begin t text b ≡ true → b ≤ length text
begins_within t text b h = leb-true b (length text) (and_parts (nat_le b (length text))
    ((b == 0) || (may_stay t || takes_at (may_take t) (slice_get text b))) h).0

pub none_later : (t : Tree) (text : List ℕ) (place : ℕ) → may_stay t || may_take t 128 ≡ false
    → may_begin t text place ≡ false → (m : ℕ) → place ≤ m → may_begin t text m ≡ true → ⊥
none_later t text place none here m le y = by_order (lt_or_le place m)
  where
    parts : (a b : Bool) → a || b ≡ false → (a ≡ false) × (b ≡ false)
    parts true b h = absurd (false≢true (sym h))
    parts false b h = (refl, h)

    by_order : (place < m) ⊎ (m ≤ place) → ⊥
    by_order (inl lt) =
        let p = parts (may_stay t) (may_take t 128) none in none_begins t text m p.0 p.1 (omega (arith, lt)) y
    by_order (inr ge) = let same : m ≡ place = omega (arith, le, ge) in
        false≢true (sym here ∙ subst (λ (x : ℕ). may_begin t text x ≡ true) same y)

-- places where no walk begins
pub unbegun_here : (t : Tree) (text : List ℕ) (k : ℕ) → 0 < k → may_stay t ≡ false
    → takes_at (may_take t) (slice_get text k) ≡ false → may_begin t text k ≡ false
unbegun_here t text k later stays takes = by_parts (nat_le k (length text)) (k == 0) (may_stay t)
    (takes_at (may_take t) (slice_get text k)) (ne_eqb k 0 (λ e. omega (arith, e, later))) stays takes
  where
    by_parts : (a b c d : Bool) → b ≡ false → c ≡ false → d ≡ false → a && (b || (c || d)) ≡ false
    by_parts true false false false e f g = refl
    by_parts false b c d e f g = refl
    by_parts true true c d e f g = absurd (false≢true (sym e))
    by_parts true false true d e f g = absurd (false≢true (sym f))
    by_parts true false false true e f g = absurd (false≢true (sym g))

pub unbegun_next : (t : Tree) (text : List ℕ) (from place : ℕ) → NoneBegins t text from place
    → may_begin t text place ≡ false → NoneBegins t text from (place + 1)
unbegun_next t text from place none here k le lt = by_order (lt_or_same k place (omega (arith, lt)))
  where
    by_order : (k < place) ⊎ (k ≡ place) → may_begin t text k ≡ false
    by_order (inl before) = none k le before
    by_order (inr same) = subst (λ (x : ℕ). may_begin t text x ≡ false) (sym same) here

pub unbegun_end : (t : Tree) (text : List ℕ) (from place : ℕ) → 0 < from → may_stay t ≡ false → length text ≤ place
    → NoneBegins t text from place → NoneBegins t text from (length text + 1)
unbegun_end t text from place later stays past none k le lt = by_order (lt_or_le k place)
  where
    by_order : (k < place) ⊎ (place ≤ k) → may_begin t text k ≡ false
    by_order (inl before) = none k le before
    by_order (inr after) = unbegun_here t text k (omega (arith, later, le)) stays
        (ap (takes_at (may_take t)) (slice_get_past text k (omega (arith, past, after))))

-- where none begins from there on, none begins at any place
pub unbegun_later : (t : Tree) (text : List ℕ) (place : ℕ) → may_stay t || may_take t 128 ≡ false
    → may_begin t text place ≡ false → (m : ℕ) → place ≤ m → may_begin t text m ≡ false
unbegun_later t text place none here m le = not_true (may_begin t text m) (none_later t text place none here m le)
  where
    not_true : (b : Bool) → (b ≡ true → ⊥) → b ≡ false
    not_true true h = absurd (h refl)
    not_true false h = refl

-- a walk begins where it may stay
pub unbegun_moves : (t : Tree) (text : List ℕ) (k : ℕ) → k ≤ length text → may_begin t text k ≡ false
    → may_stay t ≡ false
unbegun_moves t text k le h = by_parts (nat_le k (length text)) (k == 0) (may_stay t)
    (takes_at (may_take t) (slice_get text k)) (le-leb k (length text) le) h
  where
    by_parts : (a b c d : Bool) → a ≡ true → a && (b || (c || d)) ≡ false → c ≡ false
    by_parts true false false d e f = refl
    by_parts true true c d e f = absurd (false≢true (sym f))
    by_parts true false true d e f = absurd (false≢true (sym f))
    by_parts false b c d e f = absurd (false≢true e)
