-- What single pieces pass.
use Rattle.std.proofs.Common.{
  get_or,
  ◌≡◌,
  ℕ,
  zero,
  suc,
  ◌+◌,
  ◌<◌,
  ◌≤◌,
  Bool,
  true,
  false,
  cond,
  List,
  [],
  ◌∷◌,
  ◌++◌,
  add-one,
  length,
  take,
  Option,
  Some,
  None,
  refl,
  sym,
  ap,
  subst,
  ◌∙◌,
  arith,
}
use Rattle.std.specs.Prelude.{slice_get, slice_index, ◌-◌, unwrap_or, ◌==◌}
use Rattle.std.specs.Global.{Vec}
use Rattle.std.proofs.lemmas.Option.{slice_get_read, slice_get_within, slice_get-get_or, same_Some}
use Rattle.std.proofs.lemmas.Bool.{eqb-true, eqb-false, both_ways}
use mathlib.Core.Bool.{not, beq}
use Rattle.es_pattern.specs.Tree.{Tree, CharRange, one_of, text_start, text_end, word_boundary, lookahead}
use Rattle.es_pattern.specs.Spans.{differs, is_boundary, fits, Spans}
use Rattle.es_pattern.specs.Pieces.{top, with_piece, with_pieces, tree_at}
use Rattle.es_pattern.specs.Passing.{IsSingle, PassesPiece, PassesAs, Answers, Tells, stays, class_passing, ahead_of}
use Rattle.es_pattern.specs.declared.step.Direction.{Direction}
use Rattle.es_pattern.specs.declared.step.Direction.TheVariants.{Forward, Backward}
use Rattle.es_pattern.specs.declared.alive.Passing.TheVariants.{Stops, Moves}
use Rattle.es_pattern.proofs.NumberTests.{no_some}
use Rattle.es_pattern.specs.declared.piece.Piece.{Piece}
use Rattle.es_pattern.specs.declared.piece.Piece.TheVariants.{
  Nothing,
  OneOf,
  TextStart,
  TextEnd,
  WordBoundary,
  Sequence,
  Choice,
  Repetition,
  Lookahead,
}
use Rattle.es_pattern.proofs.Readers.{push_piece}

pub differs_is : (a b : Bool) → not (beq a b) ≡ differs a b
differs_is true true = refl
differs_is true false = refl
differs_is false true = refl
differs_is false false = refl

-- the trees after a piece more
pub with_more : (pieces : List Piece) (number : ℕ) (p : Piece) (ts : List Tree) → slice_get pieces number ≡ Some p
    → with_pieces (take (suc number) pieces) ts ≡ with_piece p (with_pieces (take number pieces) ts)
with_more [] number p ts h = cc
with_more (q ∷ pieces) zero p ts h = let e : q ≡ p = cc in ap (λ (r : Piece). with_piece r ts) e
with_more (q ∷ pieces) (suc number) p ts h = with_more pieces number p (with_piece q ts) h

pub tree_at_is : (pieces : List Piece) (number : ℕ) (p : Piece) → slice_get pieces number ≡ Some p
    → tree_at pieces number ≡ top (with_piece p (with_pieces (take number pieces) []))
tree_at_is pieces number p h = ap top (with_more pieces number p [] h)

-- the character at a place
index_is : (text : List ℕ) (i c : ℕ) → slice_get text i ≡ Some c → slice_index text i ≡ c
index_is text i c h =
    same_Some (slice_index text i) c (sym (slice_get-get_or text i 0 (slice_get_within text i c h)) ∙ h)

-- what single pieces do at a place, on a walk in either direction
module _ (pieces : List Piece) (text : List ℕ) (number i : ℕ) (p : Piece) (stands : slice_get pieces number ≡ Some p)
  where
    piece_is : (j k : ℕ) (h : PassesPiece pieces text number j k) → h.piece ≡ p
    piece_is j k h = same_Some h.piece p (sym h.stands ∙ stands)

    -- a piece that is not single passes nothing
    no_single : (d : Direction) → (IsSingle p → ⊥) → PassesAs d pieces text number i Stops
    no_single Forward none = λ j h. none (subst (λ (q : Piece). IsSingle q) (piece_is i j h) h.single)
    no_single Backward none = λ j h. none (subst (λ (q : Piece). IsSingle q) (piece_is j i h) h.single)

    single_spans : IsSingle p → (j k : ℕ) → Spans (tree_at pieces number) text j k → PassesPiece pieces text number j k
    single_spans single j k s = record { piece = p; stands = stands; single = single; spans = s }

    -- one that spans the empty part where a test holds
    by_test : (d : Direction) (b : Bool) → IsSingle p → (b ≡ true → Spans (tree_at pieces number) text i i)
        → (b ≡ false → Spans (tree_at pieces number) text i i → ⊥)
        → ((j k : ℕ) → Spans (tree_at pieces number) text j k → j ≡ k) → PassesAs d pieces text number i (stays b)
    by_test Forward true single holds fails empty = (single_spans single i i (holds refl), λ j h. sym (empty i j h.spans))
    by_test Backward true single holds fails empty = (single_spans single i i (holds refl), λ j h. empty j i h.spans)
    by_test Forward false single holds fails empty =
        λ j h. fails refl (subst (λ (x : ℕ). Spans (tree_at pieces number) text i x) (sym (empty i j h.spans)) h.spans)
    by_test Backward false single holds fails empty =
        λ j h. fails refl (subst (λ (x : ℕ). Spans (tree_at pieces number) text x i) (empty j i h.spans) h.spans)

differs_not : (a b : Bool) → differs a b ≡ true → a ≡ not b
differs_not true true h = cc
differs_not true false h = refl
differs_not false true h = refl
differs_not false false h = cc

not_differs : (a b : Bool) → differs a b ≡ false → a ≡ not b → ⊥
not_differs true true h e = cc
not_differs true false h e = cc
not_differs false true h e = cc
not_differs false false h e = cc

stays_at : (negated : Bool) (t : Tree) (text : List ℕ) (i j : ℕ) → Spans (lookahead negated t) text i j → i ≡ j
stays_at true t text i j s = s.0
stays_at false t text i j s = s.0

module _ (pieces : List Piece) (text : List ℕ) (number i : ℕ) where
  -- a piece of another kind passes nothing
  pub passes_other : (d : Direction) (p : Piece) → slice_get pieces number ≡ Some p
      → ((negated : Bool) (ranges : Vec CharRange) → p ≡ OneOf negated ranges → ⊥) → (p ≡ TextStart → ⊥)
      → (p ≡ TextEnd → ⊥) → ((negated : Bool) → p ≡ WordBoundary negated → ⊥)
      → ((negated : Bool) → p ≡ Lookahead negated → ⊥) → PassesAs d pieces text number i Stops
  passes_other d Nothing h a b c e f = no_single pieces text number i Nothing h d (λ s. s)
  passes_other d Sequence h a b c e f = no_single pieces text number i Sequence h d (λ s. s)
  passes_other d Choice h a b c e f = no_single pieces text number i Choice h d (λ s. s)
  passes_other d (Repetition least more) h a b c e f =
      no_single pieces text number i (Repetition least more) h d (λ s. s)
  passes_other d (OneOf negated ranges) h a b c e f = absurd (a negated ranges refl)
  passes_other d TextStart h a b c e f = absurd (b refl)
  passes_other d TextEnd h a b c e f = absurd (c refl)
  passes_other d (WordBoundary negated) h a b c e f = absurd (e negated refl)
  passes_other d (Lookahead negated) h a b c e f = absurd (f negated refl)

  -- an assertion, whose tree is this one
  module _ (p : Piece) (t : Tree) (stands : slice_get pieces number ≡ Some p) (e : tree_at pieces number ≡ t) where
    by_tree : (d : Direction) (b : Bool) → IsSingle p → (b ≡ true → Spans t text i i)
        → (b ≡ false → Spans t text i i → ⊥) → ((j k : ℕ) → Spans t text j k → j ≡ k)
        → PassesAs d pieces text number i (stays b)
    by_tree d b single holds fails empty = by_test pieces text number i p stands d b single
        (λ y. subst (λ (u : Tree). Spans u text i i) (sym e) (holds y))
        (λ n s. fails n (subst (λ (u : Tree). Spans u text i i) e s))
        (λ j k s. empty j k (subst (λ (u : Tree). Spans u text j k) e s))

  pub passes_start : (d : Direction) → slice_get pieces number ≡ Some TextStart
      → PassesAs d pieces text number i (stays (i == 0))
  passes_start d h = by_tree TextStart text_start h (tree_at_is pieces number TextStart h) d (i == 0) tt
      (λ b. (refl, eqb-true i 0 b)) (λ b s. eqb-false i 0 b s.1) (λ j k s. s.0)

  pub passes_end : (d : Direction) → slice_get pieces number ≡ Some TextEnd
      → PassesAs d pieces text number i (stays (i == length text))
  passes_end d h = by_tree TextEnd text_end h (tree_at_is pieces number TextEnd h) d (i == length text) tt
      (λ b. (refl, eqb-true i (length text) b)) (λ b s. eqb-false i (length text) b s.1) (λ j k s. s.0)

  pub passes_boundary : (d : Direction) (negated : Bool) → slice_get pieces number ≡ Some (WordBoundary negated)
      → PassesAs d pieces text number i (stays (differs (is_boundary text i) negated))
  passes_boundary d negated h = by_tree (WordBoundary negated) (word_boundary negated) h
      (tree_at_is pieces number (WordBoundary negated) h) d (differs (is_boundary text i) negated) tt
      (λ b. (refl, differs_not (is_boundary text i) negated b)) (λ b s. not_differs (is_boundary text i) negated b s.1)
      (λ j k s. s.0)

  pub passes_lookahead : (d : Direction) (negated holds : Bool) → slice_get pieces number ≡ Some (Lookahead negated)
      → Answers pieces text number i holds → PassesAs d pieces text number i (stays holds)
  passes_lookahead d negated holds h a = by_test pieces text number i (Lookahead negated) h d holds tt
      (λ b. let at_true : Answers pieces text number i true =
      subst (λ (v : Bool). Answers pieces text number i v) b a in at_true)
      (λ b. let at_false : Answers pieces text number i false =
      subst (λ (v : Bool). Answers pieces text number i v) b a in at_false)
      (λ j k s. stays_at negated (top (with_pieces (take number pieces) [])) text j k
      (subst (λ (u : Tree). Spans u text j k) (tree_at_is pieces number (Lookahead negated) h) s))

  -- a class
  module _ (negated : Bool) (ranges : Vec CharRange) (stands : slice_get pieces number ≡ Some (OneOf negated ranges))
    where
      class_spans : (j k : ℕ) → PassesPiece pieces text number j k → Spans (one_of negated ranges.items) text j k
      class_spans j k h =
          subst (λ (u : Tree). Spans u text j k) (tree_at_is pieces number (OneOf negated ranges) stands) h.spans

      class_passes : (j c : ℕ) → slice_get text j ≡ Some c → fits negated ranges.items c ≡ true
          → PassesPiece pieces text number j (j + 1)
      class_passes j c at f = single_spans pieces text number i (OneOf negated ranges) stands tt j (j + 1)
          (subst (λ (u : Tree). Spans u text j (j + 1)) (sym (tree_at_is pieces number (OneOf negated ranges) stands)) (
            slice_get_within text j c at,
            refl,
            subst (λ (x : ℕ). fits negated ranges.items x ≡ true)
                (sym (index_is text j c at)) f,
          ))

      -- the character that is passed fits
      class_fits : (j k c : ℕ) → slice_get text j ≡ Some c → fits negated ranges.items c ≡ false
          → PassesPiece pieces text number j k → ⊥
      class_fits j k c at f h = both_ways (fits negated ranges.items c) f
          (subst (λ (x : ℕ). fits negated ranges.items x ≡ true) (index_is text j c at) (class_spans j k h).2)

      by_fit : (d : Direction) (c : ℕ) (b : Bool) → ahead_of d text i ≡ Some c → fits negated ranges.items c ≡ b
          → PassesAs d pieces text number i (cond b Moves Stops)
      by_fit Forward c true at f =
          (i + 1, refl, omega (arith, slice_get_within text i c at), class_passes i c at f, λ j h. (class_spans i j h).1)
      by_fit Forward c false at f = λ j h. class_fits i j c at f h
      by_fit Backward c b at f = by_place i refl
        where
          by_place : (k : ℕ) → i ≡ k → PassesAs Backward pieces text number i (cond b Moves Stops)
          by_place zero e = no_some c (sym (ap (λ (x : ℕ). ahead_of Backward text x) e) ∙ at)
          by_place (suc k) e = by_bool b refl
            where
              there : slice_get text k ≡ Some c
              there = sym (ap (λ (x : ℕ). ahead_of Backward text x) e) ∙ at

              from_there : (j : ℕ) → PassesPiece pieces text number j i → j ≡ k
              from_there j h = omega (arith, (class_spans j i h).1, e)

              by_bool : (v : Bool) → b ≡ v → PassesAs Backward pieces text number i (cond v Moves Stops)
              by_bool true y = (
                k,
                omega (arith, e),
                omega (arith, slice_get_within text k c there),
                subst (λ (x : ℕ). PassesPiece pieces text number k x) (omega (arith, e)) (class_passes k c there (f ∙ y)),
                λ j h. from_there j h,
              )
              by_bool false y = λ j h. class_fits k i c there (f ∙ y)
                  (subst (λ (x : ℕ). PassesPiece pieces text number x i) (from_there j h) h)

      by_ahead : (d : Direction) (o : Option ℕ) → ahead_of d text i ≡ o
          → PassesAs d pieces text number i (class_passing negated ranges.items o)
      by_ahead d (Some c) at = by_fit d c (fits negated ranges.items c) at refl
      by_ahead Forward None at = λ j h. no_some (slice_index text i) (sym at ∙ there (class_spans i j h).0)
        where
          there : i < length text → slice_get text i ≡ Some (slice_index text i)
          there lt = slice_get-get_or text i 0 lt
      by_ahead Backward None at = by_place i refl
        where
          by_place : (k : ℕ) → i ≡ k → PassesAs Backward pieces text number i Stops
          by_place zero e = λ j h. omega (arith, e, (class_spans j i h).1)
          by_place (suc k) e = λ j h.
              let same : j ≡ k = omega (arith, e, (class_spans j i h).1) in
              no_some (slice_index text k) (sym (sym (ap (λ (x : ℕ). ahead_of Backward text x) e) ∙ at)
              ∙ slice_get-get_or text k 0 (omega (arith, same, (class_spans j i h).0)))

      pub passes_class : (d : Direction) → PassesAs d pieces text number i
          (class_passing negated ranges.items (ahead_of d text i))
      passes_class d = by_ahead d (ahead_of d text i) refl

-- what a table that tells has for a place
pub told_right : (pieces : List Piece) (text : List ℕ) (number i : ℕ) (table : List Bool) (told : Bool)
    → Tells pieces text number table → i ≤ length text → told ≡ unwrap_or (slice_get table (length text - i)) false
    → Answers pieces text number i told
told_right pieces text number i table told tells le e =
    let t = tells.told i le in
    let same : t.0 ≡ told = cc (e, ap (λ (o : Option Bool). unwrap_or o false) t.1) in
    subst (λ (b : Bool). Answers pieces text number i b) same t.2

-- one piece more, the same in effect
pub copied_more : (copies copies' pieces : List Piece) (i : ℕ) (piece copy : Piece) → copies' ≡ copies ++ copy ∷ []
    → with_pieces copies [] ≡ with_pieces (take i pieces) []
    → ((ts : List Tree) → with_piece copy ts ≡ with_piece piece ts)
    → i < length pieces → piece ≡ get_or pieces i piece → with_pieces copies' [] ≡ with_pieces (take (i + 1) pieces) []
copied_more copies copies' pieces i piece copy e same alike lt is =
    ap (λ (ps : List Piece). with_pieces ps []) e ∙ push_piece copies copy [] ∙ ap (with_piece copy) same
    ∙ alike (with_pieces (take i pieces) [])
    ∙ sym (rw add-one (with_more pieces i piece [] (slice_get_read pieces (length pieces) i piece refl lt is)))
