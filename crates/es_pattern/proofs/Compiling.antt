-- The programs of a pattern's pieces walk as their trees span.
use Rattle.std.proofs.Common.{
  inl,
  inr,
  ◌≡◌,
  ℕ,
  zero,
  suc,
  ◌+◌,
  ◌<◌,
  ◌≤◌,
  Bool,
  true,
  List,
  [],
  ◌∷◌,
  ◌++◌,
  length,
  map,
  take,
  get_or,
  Option,
  Some,
  None,
  option_map,
  add-one,
  refl,
  sym,
  ap,
  subst,
  ◌∙◌,
  arith,
}
use Rattle.std.specs.Prelude.{reverse, slice_get, ◌⊎◌}
use Rattle.std.specs.Global.{Vec, Global}
use Rattle.std.specs.declared.collections.VecDeque.{VecDeque}
use Rattle.std.proofs.lemmas.Option.{same_Some, slice_get_within, slice_get_read}
use Rattle.std.proofs.lemmas.List.{
  reverse-append,
  map-append,
  append-nil,
  nil_from_length,
  append_assoc,
  length-append,
  take_all,
}
use Rattle.es_pattern.specs.declared.step.Step.{Step}
use Rattle.es_pattern.specs.declared.step.Step.TheVariants.{Pass, Fork, Jump, Back}
use Rattle.es_pattern.specs.declared.step.Direction.{Direction}
use Rattle.es_pattern.specs.declared.step.Direction.TheVariants.{Forward, Backward}
use Rattle.es_pattern.specs.declared.piece.Piece.{Piece}
use Rattle.es_pattern.specs.declared.piece.Piece.TheVariants.{
  Nothing,
  OneOf,
  TextStart,
  TextEnd,
  WordBoundary,
  Sequence,
  Choice,
  Repetition,
  Lookahead,
}
use Rattle.es_pattern.specs.Tree.{Tree, CharRange, nothing, sequence, choice, repetition}
use Rattle.es_pattern.specs.Spans.{Spans, Chain, IsUpTo, fits}
use Rattle.es_pattern.specs.Pieces.{top, below, with_piece, with_pieces, tree_of}
use Rattle.es_pattern.specs.Program.{
  Stands,
  Runs,
  Walks,
  IsAlive,
  Mirror,
  sequence_steps,
  choice_steps,
  copies,
  maybe_steps,
  repetition_steps,
}
use Rattle.es_pattern.specs.Passing.{PassesPiece, Passes, IsSingle, AllClassed}
use Rattle.es_pattern.specs.Compiled.{
  stack_of,
  top_code,
  code_below,
  with_code,
  codes_from,
  codes,
  steps_of,
  part_steps,
  AllParts,
}
use Rattle.es_pattern.proofs.Walking.{
  walks_nothing,
  walks_piece,
  walks_sequence,
  walks_choice,
  walks_repetition,
  walks_same,
  chain_mirrored,
}
use Rattle.es_pattern.proofs.Passings.{tree_at_is, with_more}
use Rattle.es_pattern.proofs.Alives.{comes_runs, runs_come}
use Rattle.es_pattern.proofs.NumberTests.{lt_or_same}

-- an element behind those in front of it
pub slice_get_end : {X : Type 0} (front : List X) (x : X) (rest : List X)
    → slice_get (front ++ x ∷ rest) (length front) ≡ Some x
slice_get_end [] x rest = refl
slice_get_end (y ∷ front) x rest = slice_get_end front x rest

pub slice_get-append : {X : Type 0} (xs ys : List X) (k : ℕ) (x : X) → slice_get xs k ≡ Some x
    → slice_get (xs ++ ys) k ≡ Some x
slice_get-append [] ys k x h = cc
slice_get-append (y ∷ xs) ys zero x h = h
slice_get-append (y ∷ xs) ys (suc k) x h = slice_get-append xs ys k x h

-- the stack of the programs
stack_push : (programs : List (VecDeque Step Global)) (p : VecDeque Step Global)
    → stack_of (programs ++ p ∷ []) ≡ p.items ∷ stack_of programs
stack_push programs p = ap reverse (map-append (λ (q : VecDeque Step Global). q.items) programs (p ∷ []))
    ∙ reverse-append (map (λ (q : VecDeque Step Global). q.items) programs) (p.items ∷ [])

pub pushed_more : (old new : List (VecDeque Step Global)) (p : VecDeque Step Global) → new ≡ old ++ p ∷ []
    → stack_of new ≡ p.items ∷ stack_of old
pushed_more old new p e = ap stack_of e ∙ stack_push old p

pub popped_some : (old new : List (VecDeque Step Global)) (p : VecDeque Step Global) → old ≡ new ++ p ∷ []
    → (p.items ≡ top_code (stack_of old)) × (stack_of new ≡ code_below (stack_of old))
popped_some old new p e = let s = ap stack_of e ∙ stack_push new p in (sym (ap top_code s), sym (ap code_below s))

pub popped_none : (old new : List (VecDeque Step Global)) → length old ≡ 0 → old ≡ new ++ []
    → ([] ≡ top_code (stack_of old)) × (stack_of new ≡ code_below (stack_of old))
popped_none old new l e =
    let empty = nil_from_length old l in
    let same : new ≡ old = sym (append-nil new) ∙ sym e in (
      sym (ap (λ (ps : List (VecDeque Step Global)). top_code (stack_of ps)) empty),
      ap stack_of (same ∙ empty)
          ∙ sym (ap (λ (ps : List (VecDeque Step Global)). code_below (stack_of ps)) empty),
    )

-- the programs of one piece more
from_more : (d : Direction) (pieces : List Piece) (from number : ℕ) (p : Piece) (cs : List (List Step))
    → slice_get pieces number ≡ Some p
    → codes_from d from (take (suc number) pieces) cs ≡ with_code d p (from + number)
    (codes_from d from (take number pieces) cs)
from_more d [] from number p cs h = cc
from_more d (q ∷ pieces) from zero p cs h =
    let e : q ≡ p = cc in
    let n : from ≡ from + 0 = omega arith in
    ap (λ (r : Piece). with_code d r from cs) e ∙ ap (λ (k : ℕ). with_code d p k cs) n
from_more d (q ∷ pieces) from (suc number) p cs h =
    let n : suc from + number ≡ from + suc number = omega arith in
    from_more d pieces (suc from) number p (with_code d q from cs) h
    ∙ ap (λ (k : ℕ). with_code d p k (codes_from d (suc from) (take number pieces) (with_code d q from cs))) n

pub codes_more : (d : Direction) (pieces : List Piece) (number : ℕ) (p : Piece) → slice_get pieces number ≡ Some p
    → codes d (take (number + 1) pieces) ≡ with_code d p number (codes d (take number pieces))
codes_more d pieces number p h =
    let n : 0 + number ≡ number = omega arith in
    rw add-one (from_more d pieces 0 number p [] h ∙ ap (λ (k : ℕ). with_code d p k (codes d (take number pieces))) n)

-- the piece that stands at a place of the list
pub stands_there : (pieces : List Piece) (number : ℕ) (p : Piece) → number < length pieces → p ≡ get_or pieces number p
    → slice_get pieces number ≡ Some p
stands_there pieces number p lt e = slice_get_read pieces (length pieces) number p refl lt e

-- the parts so far
pub record Parting (pieces : List Piece) (count : ℕ) (lookaheads : List (Vec Step)) : Type 0 where
  pub counted : length lookaheads ≡ count
  pub each : (number : ℕ) (negated : Bool) → number < count → slice_get pieces number ≡ Some (Lookahead negated)
      → (steps : Vec Step) × (slice_get lookaheads number ≡ Some steps)
      × (steps.items ≡ part_steps Backward pieces number)

pub parting_more : (pieces : List Piece) (count : ℕ) (lookaheads new : List (Vec Step)) (p : Piece) (part : Vec Step)
    → Parting pieces count lookaheads → slice_get pieces count ≡ Some p
    → ((negated : Bool) → p ≡ Lookahead negated → part.items ≡ part_steps Backward pieces count) → new ≡ lookaheads
    ++ part ∷ [] → Parting pieces (count + 1) new
parting_more pieces count lookaheads new p part h stands is e =
    subst (λ (ls : List (Vec Step)). Parting pieces (count + 1) ls) (sym e) record {
      counted = omega (arith, length-append lookaheads (part ∷ []), h.counted);
      each = λ number negated lt at. by_order number negated at (lt_or_same number count (omega (arith, lt)));
    }
  where
    by_order : (number : ℕ) (negated : Bool) → slice_get pieces number ≡ Some (Lookahead negated) → (number < count)
        ⊎ (number ≡ count)
        → (steps : Vec Step) × (slice_get (lookaheads ++ part ∷ []) number ≡ Some steps)
        × (steps.items ≡ part_steps Backward pieces number)
    by_order number negated at (inl lt) = let old = h.each number negated lt at in
        (old.0, slice_get-append lookaheads (part ∷ []) number old.0 old.1, old.2)
    by_order number negated at (inr same) =
        let here : slice_get pieces count ≡ Some (Lookahead negated) = ap (slice_get pieces) (sym same) ∙ at in
        subst (λ (k : ℕ). (steps : Vec Step) × (slice_get (lookaheads ++ part ∷ []) k ≡ Some steps)
        × (steps.items ≡ part_steps Backward pieces k)) (sym same) (
          part,
          subst (λ (k : ℕ). slice_get (lookaheads ++ part ∷ []) k ≡ Some part) h.counted
              (slice_get_end lookaheads part []),
          is negated (same_Some p (Lookahead negated) (sym stands ∙ here)),
        )

pub all_parts : (pieces : List Piece) (count : ℕ) (lookaheads : List (Vec Step)) → count ≡ length pieces
    → Parting pieces count lookaheads → AllParts pieces lookaheads
all_parts pieces count lookaheads e h = λ number negated at. h.each number negated
    (omega (arith, e, slice_get_within pieces number (Lookahead negated) at)) at

-- the classes so far
pub record Classing (pieces : List Piece) (count : ℕ) (classes : List (Vec Bool)) : Type 0 where
  pub counted : length classes ≡ count
  pub each : AllClassed pieces classes

pub classing_more : (pieces : List Piece) (count : ℕ) (classes new : List (Vec Bool)) (p : Piece) (class : Vec Bool)
    → Classing pieces count classes → slice_get pieces count ≡ Some p
    → ((negated : Bool) (ranges : Vec CharRange) → p ≡ OneOf negated ranges → (c : ℕ) → c < 128
    → slice_get class.items c ≡ Some (fits negated ranges.items c)) → new ≡ classes ++ class ∷ []
    → Classing pieces (count + 1) new
classing_more pieces count classes new p class h stands is e =
    subst (λ (cs : List (Vec Bool)). Classing pieces (count + 1) cs) (sym e) record {
      counted = omega (arith, length-append classes (class ∷ []), h.counted);
      each = λ number c negated ranges other at there lt. by_place number c negated ranges other at lt
          (one_before classes number other there);
    }
  where
    one_before : (cs : List (Vec Bool)) (number : ℕ) (other : Vec Bool)
        → slice_get (cs ++ class ∷ []) number ≡ Some other → (slice_get cs number ≡ Some other)
        ⊎ ((number ≡ length cs) × (class ≡ other))
    one_before [] zero other there = inr (refl, same_Some class other there)
    one_before [] (suc number) other there = cc
    one_before (x ∷ cs) zero other there = inl there
    one_before (x ∷ cs) (suc number) other there = by_cases (one_before cs number other there)
      where
        by_cases : (slice_get cs number ≡ Some other) ⊎ ((number ≡ length cs) × (class ≡ other))
            → (slice_get cs number ≡ Some other) ⊎ ((suc number ≡ suc (length cs)) × (class ≡ other))
        by_cases (inl g) = inl g
        by_cases (inr g) = inr (ap suc g.0, g.1)

    by_place : (number c : ℕ) (negated : Bool) (ranges : Vec CharRange) (other : Vec Bool)
        → slice_get pieces number ≡ Some (OneOf negated ranges) → c < 128 → (slice_get classes number ≡ Some other)
        ⊎ ((number ≡ length classes) × (class ≡ other))
        → slice_get other.items c ≡ Some (fits negated ranges.items c)
    by_place number c negated ranges other at lt (inl g) = h.each number c negated ranges other at g lt
    by_place number c negated ranges other at lt (inr g) =
        let here : slice_get pieces count ≡ Some (OneOf negated ranges) =
        ap (slice_get pieces) (sym (g.0 ∙ h.counted)) ∙ at in
        subst (λ (v : Vec Bool). slice_get v.items c ≡ Some (fits negated ranges.items c)) g.1
        (is negated ranges (same_Some p (OneOf negated ranges) (sym stands ∙ here)) c lt)

-- a step passes one of the first pieces alone
abbrev IsPassBelow : Step → ℕ → Type 0
IsPassBelow (Pass number) count = number < count
IsPassBelow (Fork by) count = Unit {0}
IsPassBelow (Jump by) count = Unit {0}
IsPassBelow (Back by) count = Unit {0}

abbrev PassesBelow : List Step → ℕ → Type 0
PassesBelow [] count = Unit {0}
PassesBelow (s ∷ steps) count = IsPassBelow s count × PassesBelow steps count

pub below_at : (program : List Step) (count at number : ℕ) → PassesBelow program count
    → slice_get program at ≡ Some (Pass number) → number < count
below_at [] count at number below h = cc
below_at (t ∷ program) count zero number below h =
    let e : t ≡ Pass number = cc in subst (λ (u : Step). IsPassBelow u count) e below.0
below_at (t ∷ program) count (suc at) number below h = below_at program count at number below.1 h

below_later : (s : Step) (count : ℕ) → IsPassBelow s count → IsPassBelow s (count + 1)
below_later (Pass number) count h = omega (arith, h)
below_later (Fork by) count h = tt
below_later (Jump by) count h = tt
below_later (Back by) count h = tt

passes_later : (c : List Step) (count : ℕ) → PassesBelow c count → PassesBelow c (count + 1)
passes_later [] count h = tt
passes_later (s ∷ c) count h = (below_later s count h.0, passes_later c count h.1)

passes-append : (a b : List Step) (count : ℕ) → PassesBelow a count → PassesBelow b count → PassesBelow (a ++ b) count
passes-append [] b count ha hb = hb
passes-append (s ∷ a) b count ha hb = (ha.0, passes-append a b count ha.1 hb)

passes-copies : (n : ℕ) (a : List Step) (count : ℕ) → PassesBelow a count → PassesBelow (copies n a) count
passes-copies zero a count h = tt
passes-copies (suc n) a count h = passes-append (copies n a) a count (passes-copies n a count h) h

passes-repetition : (least : ℕ) (more : Option ℕ) (a : List Step) (count : ℕ) → PassesBelow a count
    → PassesBelow (repetition_steps least more a) count
passes-repetition least (Some more) a count h =
    passes-append (copies least a) (copies more (maybe_steps a)) count (passes-copies least a count h)
    (passes-copies more (maybe_steps a) count (tt, h))
passes-repetition zero None a count h = (tt, passes-append a (Back (length a + 1) ∷ []) count h (tt, tt))
passes-repetition (suc n) None a count h = passes-append (copies n a) (a ++ (Fork 2 ∷ Back (length a + 1) ∷ [])) count
    (passes-copies n a count h) (passes-append a (Fork 2 ∷ Back (length a + 1) ∷ []) count h (tt, (tt, tt)))

module _ (d : Direction) (pieces : List Piece) (text : List ℕ) (goal : ℕ) where
  -- the steps walk as the tree spans
  abbrev TreeWalks : List Step → Tree → Type 0
  TreeWalks c t = Walks (Passes d pieces text) goal c (Mirror d (Spans t text))

  -- each program walks as its tree spans, and passes the first pieces alone
  abbrev AllWalk : ℕ → List (List Step) → List Tree → Type 0
  AllWalk count [] [] = Unit {0}
  AllWalk count [] (t ∷ ts) = ⊥
  AllWalk count (c ∷ cs) [] = ⊥
  AllWalk count (c ∷ cs) (t ∷ ts) = TreeWalks c t × PassesBelow c count × AllWalk count cs ts

mirrored : (d : Direction) (R S : ℕ → ℕ → Type 0) → ((i j : ℕ) → R i j → S i j) → (i j : ℕ) → Mirror d R i j
    → Mirror d S i j
mirrored Forward R S to i j h = to i j h
mirrored Backward R S to i j h = to j i h

tree_nothing : (d : Direction) (pieces : List Piece) (text : List ℕ) (goal : ℕ)
    → TreeWalks d pieces text goal [] nothing
tree_nothing Forward pieces text goal = walks_nothing (Passes Forward pieces text) goal
tree_nothing Backward pieces text goal = walks_same (Passes Backward pieces text) goal [] (λ i j. i ≡ j) (λ i j. j ≡ i)
    (walks_nothing (Passes Backward pieces text) goal) (λ i j e. sym e) (λ i j e. sym e)

tree_sequence : (d : Direction) (pieces : List Piece) (text : List ℕ) (goal : ℕ) (a b : List Step) (s t : Tree)
    → TreeWalks d pieces text goal a s → TreeWalks d pieces text goal b t
    → TreeWalks d pieces text goal (sequence_steps d a b) (sequence s t)
tree_sequence Forward pieces text goal a b s t wa wb =
    walks_sequence (Passes Forward pieces text) goal a b (Spans s text) (Spans t text) wa wb
tree_sequence Backward pieces text goal a b s t wa wb =
    walks_same (Passes Backward pieces text) goal (b ++ a) (λ i j. (x : ℕ) × Spans t text x i × Spans s text j x)
    (λ i j. (x : ℕ) × Spans s text j x × Spans t text x i)
    (walks_sequence (Passes Backward pieces text) goal b a (λ i j. Spans t text j i) (λ i j. Spans s text j i) wb wa)
    (λ i j h. (h.0, h.2, h.1)) (λ i j h. (h.0, h.2, h.1))

tree_choice : (d : Direction) (pieces : List Piece) (text : List ℕ) (goal : ℕ) (a b : List Step) (s t : Tree)
    → TreeWalks d pieces text goal a s → TreeWalks d pieces text goal b t
    → TreeWalks d pieces text goal (choice_steps a b) (choice s t)
tree_choice Forward pieces text goal a b s t wa wb =
    walks_choice (Passes Forward pieces text) goal a b (Spans s text) (Spans t text) wa wb
tree_choice Backward pieces text goal a b s t wa wb =
    walks_choice (Passes Backward pieces text) goal a b (λ i j. Spans s text j i) (λ i j. Spans t text j i) wa wb

tree_repetition : (d : Direction) (pieces : List Piece) (text : List ℕ) (goal : ℕ) (a : List Step) (t : Tree)
    (least : ℕ) (more : Option ℕ) → TreeWalks d pieces text goal a t
    → TreeWalks d pieces text goal (repetition_steps least more a)
    (repetition least (option_map (λ m. least + m) more) t)
tree_repetition Forward pieces text goal a t least more wa =
    walks_repetition (Passes Forward pieces text) goal a (Spans t text) wa least more
tree_repetition Backward pieces text goal a t least more wa =
    walks_same (Passes Backward pieces text) goal (repetition_steps least more a)
    (λ i j. (n : ℕ) × (least ≤ n) × IsUpTo (option_map (λ m. least + m) more) n
    × Chain (λ x y. Spans t text y x) n i j)
    (λ i j. (n : ℕ) × (least ≤ n) × IsUpTo (option_map (λ m. least + m) more) n × Chain (Spans t text) n j i)
    (walks_repetition (Passes Backward pieces text) goal a (λ i j. Spans t text j i) wa least more)
    (λ i j h. (h.0, h.1, h.2, chain_mirrored (Spans t text) h.0 i j h.3))
    (λ i j h. (h.0, h.1, h.2, chain_mirrored (λ x y. Spans t text y x) h.0 j i h.3))

module _ (d : Direction) (pieces : List Piece) (text : List ℕ) (goal : ℕ) where
  tree_single : (number : ℕ) (p : Piece) → IsSingle p → slice_get pieces number ≡ Some p
      → TreeWalks d pieces text goal (Pass number ∷ []) (top (with_piece p (with_pieces (take number pieces) [])))
  tree_single number p is h = walks_same (Passes d pieces text) goal (Pass number ∷ []) (Passes d pieces text number)
      (Mirror d (Spans t text)) (walks_piece (Passes d pieces text) goal number)
      (λ i j r. mirrored d (PassesPiece pieces text number) (Spans t text)
      (λ k l r. subst (λ (u : Tree). Spans u text k l) (tree_at_is pieces number p h) r.spans) i j r)
      (λ i j r. mirrored d (Spans t text) (PassesPiece pieces text number)
      (λ k l r. record {
        piece = p;
        stands = h;
        single = is;
        spans =
            subst (λ (u : Tree). Spans u text k l) (sym (tree_at_is pieces number p h)) r;
      }) i j r)
    where
      t : Tree
      t = top (with_piece p (with_pieces (take number pieces) []))

  walks_top : (count : ℕ) (cs : List (List Step)) (ts : List Tree) → AllWalk d pieces text goal count cs ts
      → TreeWalks d pieces text goal (top_code cs) (top ts)
  walks_top count [] [] a = tree_nothing d pieces text goal
  walks_top count [] (t ∷ ts) a = absurd a
  walks_top count (c ∷ cs) [] a = absurd a
  walks_top count (c ∷ cs) (t ∷ ts) a = a.0

  passes_top : (count : ℕ) (cs : List (List Step)) (ts : List Tree) → AllWalk d pieces text goal count cs ts
      → PassesBelow (top_code cs) count
  passes_top count [] [] a = tt
  passes_top count [] (t ∷ ts) a = absurd a
  passes_top count (c ∷ cs) [] a = absurd a
  passes_top count (c ∷ cs) (t ∷ ts) a = a.1

  walks_below : (count : ℕ) (cs : List (List Step)) (ts : List Tree) → AllWalk d pieces text goal count cs ts
      → AllWalk d pieces text goal count (code_below cs) (below ts)
  walks_below count [] [] a = tt
  walks_below count [] (t ∷ ts) a = absurd a
  walks_below count (c ∷ cs) [] a = absurd a
  walks_below count (c ∷ cs) (t ∷ ts) a = a.2

  -- what passes the first pieces alone passes one more of them alone
  walks_later : (count : ℕ) (cs : List (List Step)) (ts : List Tree) → AllWalk d pieces text goal count cs ts
      → AllWalk d pieces text goal (count + 1) cs ts
  walks_later count [] [] a = tt
  walks_later count [] (t ∷ ts) a = absurd a
  walks_later count (c ∷ cs) [] a = absurd a
  walks_later count (c ∷ cs) (t ∷ ts) a = (a.0, passes_later c count a.1, walks_later count cs ts a.2)

module _ (d : Direction) (pieces : List Piece) (text : List ℕ) (goal : ℕ) where
  -- the programs with a piece more
  walks_with : (count : ℕ) (p : Piece) (cs : List (List Step)) → slice_get pieces count ≡ Some p
      → AllWalk d pieces text goal count cs (with_pieces (take count pieces) [])
      → AllWalk d pieces text goal (count + 1) (with_code d p count cs) (with_pieces (take (count + 1) pieces) [])
  walks_with count p cs stands a =
      subst (λ (us : List Tree). AllWalk d pieces text goal (count + 1) (with_code d p count cs) us)
      (sym (rw add-one (with_more pieces count p [] stands))) (by_piece p stands)
    where
      ts : List Tree
      ts = with_pieces (take count pieces) []

      later : (ds : List (List Step)) (us : List Tree) → AllWalk d pieces text goal count ds us
          → AllWalk d pieces text goal (count + 1) ds us
      later ds us b = walks_later d pieces text goal count ds us b

      below_one : AllWalk d pieces text goal count (code_below cs) (below ts)
      below_one = walks_below d pieces text goal count cs ts a

      below_two : AllWalk d pieces text goal count (code_below (code_below cs)) (below (below ts))
      below_two = walks_below d pieces text goal count (code_below cs) (below ts) below_one

      first : TreeWalks d pieces text goal (top_code (code_below cs)) (top (below ts))
      first = walks_top d pieces text goal count (code_below cs) (below ts) below_one

      first_passes : PassesBelow (top_code (code_below cs)) (count + 1)
      first_passes = passes_later (top_code (code_below cs)) count
          (passes_top d pieces text goal count (code_below cs) (below ts) below_one)

      last : TreeWalks d pieces text goal (top_code cs) (top ts)
      last = walks_top d pieces text goal count cs ts a

      last_passes : PassesBelow (top_code cs) (count + 1)
      last_passes = passes_later (top_code cs) count (passes_top d pieces text goal count cs ts a)

      sequence_passes : (e : Direction) → PassesBelow (sequence_steps e (top_code (code_below cs)) (top_code cs))
          (count + 1)
      sequence_passes Forward =
          passes-append (top_code (code_below cs)) (top_code cs) (count + 1) first_passes last_passes
      sequence_passes Backward =
          passes-append (top_code cs) (top_code (code_below cs)) (count + 1) last_passes first_passes

      single : (q : Piece) → IsSingle q → slice_get pieces count ≡ Some q
          → TreeWalks d pieces text goal (Pass count ∷ []) (top (with_piece q ts))
      single q is h = tree_single d pieces text goal count q is h

      by_piece : (q : Piece) → slice_get pieces count ≡ Some q
          → AllWalk d pieces text goal (count + 1) (with_code d q count cs) (with_piece q ts)
      by_piece Nothing h = (tree_nothing d pieces text goal, tt, later cs ts a)
      by_piece (OneOf negated ranges) h = (single (OneOf negated ranges) tt h, (omega arith, tt), later cs ts a)
      by_piece TextStart h = (single TextStart tt h, (omega arith, tt), later cs ts a)
      by_piece TextEnd h = (single TextEnd tt h, (omega arith, tt), later cs ts a)
      by_piece (WordBoundary negated) h = (single (WordBoundary negated) tt h, (omega arith, tt), later cs ts a)
      by_piece (Lookahead negated) h =
          (single (Lookahead negated) tt h, (omega arith, tt), later (code_below cs) (below ts) below_one)
      by_piece Sequence h = (
        tree_sequence d pieces text goal (top_code (code_below cs)) (top_code cs) (top (below ts)) (top ts) first
            last,
        sequence_passes d,
        later (code_below (code_below cs)) (below (below ts)) below_two,
      )
      by_piece Choice h = (
        tree_choice d pieces text goal (top_code (code_below cs)) (top_code cs) (top (below ts)) (top ts) first last,
        (
          tt,
          passes-append (top_code (code_below cs)) (Jump (length (top_code cs) + 1) ∷ top_code cs) (count + 1)
              first_passes (tt, last_passes),
        ),
        later (code_below (code_below cs)) (below (below ts)) below_two,
      )
      by_piece (Repetition least more) h = (
        tree_repetition d pieces text goal (top_code cs) (top ts) least more last,
        passes-repetition least more (top_code cs) (count + 1) last_passes,
        later (code_below cs) (below ts) below_one,
      )

  -- all the first pieces
  walks_first : (count : ℕ) → count ≤ length pieces
      → AllWalk d pieces text goal count (codes d (take count pieces)) (with_pieces (take count pieces) [])
  walks_first zero le = by_front pieces
    where
      by_front : (ps : List Piece) → AllWalk d pieces text goal 0 (codes d (take 0 ps)) (with_pieces (take 0 ps) [])
      by_front [] = tt
      by_front (p ∷ ps) = tt
  walks_first (suc count) le =
      let p = piece_at pieces count (omega (arith, le)) in
      let more = walks_with count p.0 (codes d (take count pieces)) p.1 (walks_first count (omega (arith, le))) in
      let e : count + 1 ≡ suc count = omega arith in
      subst (λ (k : ℕ). AllWalk d pieces text goal k (codes d (take k pieces)) (with_pieces (take k pieces) [])) e
      (subst (λ (cs : List (List Step)). AllWalk d pieces text goal (count + 1) cs
      (with_pieces (take (count + 1) pieces) [])) (sym (codes_more d pieces count p.0 p.1)) more)
    where
      piece_at : (ps : List Piece) (k : ℕ) → k < length ps → (p : Piece) × (slice_get ps k ≡ Some p)
      piece_at [] k lt = absurd (omega (arith, lt))
      piece_at (p ∷ ps) zero lt = (p, refl)
      piece_at (p ∷ ps) (suc k) lt = piece_at ps k (omega (arith, lt))

  -- the program of the first pieces walks as their tree spans
  pub first_walks : (count : ℕ) → count ≤ length pieces
      → TreeWalks d pieces text goal (steps_of d (take count pieces)) (tree_of (take count pieces))
  first_walks count le = walks_top d pieces text goal count (codes d (take count pieces))
      (with_pieces (take count pieces) []) (walks_first count le)

  pub first_passes : (count : ℕ) → count ≤ length pieces → PassesBelow (steps_of d (take count pieces)) count
  first_passes count le = passes_top d pieces text goal count (codes d (take count pieces))
      (with_pieces (take count pieces) []) (walks_first count le)

  pub whole_walks : TreeWalks d pieces text goal (steps_of d pieces) (tree_of pieces)
  whole_walks = subst (λ (ps : List Piece). TreeWalks d pieces text goal (steps_of d ps) (tree_of ps))
      (take_all (length pieces) pieces (omega arith)) (first_walks (length pieces) (omega arith))

-- a program's end is alive at a place just where its relation leads there from where a walk begins
module _ (passes : ℕ → ℕ → ℕ → Type 0) (begins : ℕ → Bool) (goal : ℕ) (program : List Step) (R : ℕ → ℕ → Type 0)
    (w : Walks passes goal program R) where
  stands_beyond : (front rest : List Step) → Stands (front ++ rest) (length front) rest
  stands_beyond front [] = omega (arith, ap length (append-nil front))
  stands_beyond front (s ∷ rest) = (
    slice_get_end front s rest,
    subst (λ (p : List Step). Stands p (suc (length front)) rest) (append_assoc front (s ∷ []) rest)
        (subst (λ (k : ℕ). Stands ((front ++ s ∷ []) ++ rest) k rest) (length_one_more front s)
        (stands_beyond (front ++ s ∷ []) rest)),
  )
    where
      length_one_more : (front : List Step) (s : Step) → length (front ++ s ∷ []) ≡ suc (length front)
      length_one_more front s = omega (arith, length-append front (s ∷ []))

  stands_whole : Stands program 0 program
  stands_whole = stands_beyond [] program

  pub ends_alive : (b : ℕ) → begins b ≡ true → R b goal → IsAlive passes begins program (length program) goal
  ends_alive b yes_ r =
      let whole = w.enters program 0 stands_whole b goal 0 r (omega arith, refl) in
      runs_come passes begins goal program whole.0 0 0 b whole.1 (refl, yes_)

  pub alive_ends : IsAlive passes begins program (length program) goal → (b : ℕ) × (begins b ≡ true) × R b goal
  alive_ends a =
      let c = comes_runs passes begins goal program a.0 0 (length program) goal a.1 (refl, refl) in
      let l = w.leaves program 0 stands_whole c.0 c.1 c.3 in
      (c.0, c.2, subst (λ (x : ℕ). R c.0 x) (at_goal l.1 l.0 l.4) l.2)
    where
      at_goal : (n j : ℕ) → Runs passes goal program n (0 + length program) j → j ≡ goal
      at_goal zero j r = r.1
      at_goal (suc n) j r =
          absurd (omega (arith, slice_get_within program (0 + length program) (r.2).step (r.2).stands))
