-- The passes over a text.
use Rattle.std.proofs.Common.{
  ◌≡◌,
  ℕ,
  zero,
  suc,
  ◌+◌,
  ◌-◌,
  ◌<◌,
  ◌≤◌,
  Bool,
  true,
  false,
  List,
  [],
  ◌∷◌,
  ◌++◌,
  ◌⊎◌,
  inl,
  inr,
  length,
  take,
  Option,
  Some,
  None,
  refl,
  sym,
  ap,
  subst,
  ◌∙◌,
  arith,
  length-append,
}
use Rattle.std.specs.Prelude.{slice_get, nat_le, set, is_some, Result, IfOk, IsTrue, ◌↔◌, MatchBool, MatchOption}
use Rattle.std.specs.Global.{Vec}
use Rattle.std.proofs.lemmas.List.{length-set}
use Rattle.es_pattern.specs.declared.number_set.NumberSet.{NumberSet}
use Rattle.std.proofs.lemmas.Bool.{false≢true, leb-true, le-leb}
use Rattle.std.proofs.lemmas.Option.{slice_get_within, same_Some}
use Rattle.es_pattern.specs.declared.step.Step.{Step}
use Rattle.es_pattern.specs.declared.step.Direction.{Direction}
use Rattle.es_pattern.specs.declared.step.Direction.TheVariants.{Forward, Backward}
use Rattle.es_pattern.specs.declared.alive.Alive.{Alive}
use Rattle.es_pattern.specs.declared.piece.Piece.{Piece}
use Rattle.es_pattern.specs.declared.piece.Piece.TheVariants.{Lookahead}
use Rattle.es_pattern.specs.Tree.{
  Tree,
  nothing,
  one_of,
  text_start,
  text_end,
  word_boundary,
  sequence,
  choice,
  repetition,
  lookahead,
}
use Rattle.es_pattern.specs.Spans.{Spans, Chain, IsFound, differs}
use Rattle.es_pattern.specs.Pieces.{tree_of}
use Rattle.es_pattern.specs.Program.{IsAlive}
use Rattle.es_pattern.specs.Passing.{Passes, After, AllTell, Tells, Answers, IsTold, IsUntold, IsAsked, untold_count}
use Rattle.es_pattern.specs.NumberSet.{has}
use Rattle.es_pattern.specs.Alive.{IsIdle, Settled, Settling, Arrives, ArrivesBy, SettlingBy, SettledBy, PassedBy}
use Rattle.es_pattern.specs.Compiled.{AllParts, steps_of, part_steps}
use Rattle.es_pattern.proofs.Passings.{tree_at_is}
use Rattle.es_pattern.proofs.Alives.{
  alive_within,
  arrives_first,
  arrives_next,
  none_alive,
  settled_by,
  settling_begun,
  settling_unbegun,
}
use Rattle.es_pattern.specs.Begins.{may_begin}
use Rattle.es_pattern.proofs.Beginning.{begins_right, begins_within}
use Rattle.es_pattern.proofs.Compiling.{
  first_walks,
  whole_walks,
  ends_alive,
  alive_ends,
  slice_get_end,
  slice_get-append,
}
use Rattle.es_pattern.proofs.NumberTests.{lt_or_le, lt_or_same, no_some}

-- a part that begins in the text ends there
chain_within : (R : ℕ → ℕ → Type 0) (size n i j : ℕ) → ((k l : ℕ) → k ≤ size → R k l → l ≤ size) → i ≤ size
    → Chain R n i j → j ≤ size
chain_within R size zero i j within le c = omega (arith, c, le)
chain_within R size (suc n) i j within le c = chain_within R size n c.0 j within (within i c.0 le c.1) c.2

pub spans_within : (t : Tree) (text : List ℕ) (i j : ℕ) → i ≤ length text → Spans t text i j → j ≤ length text
spans_within nothing text i j le s = omega (arith, s, le)
spans_within (one_of negated ranges) text i j le s = omega (arith, s.0, s.1)
spans_within text_start text i j le s = omega (arith, s.0, le)
spans_within text_end text i j le s = omega (arith, s.0, le)
spans_within (word_boundary negated) text i j le s = omega (arith, s.0, le)
spans_within (sequence a b) text i j le s = spans_within b text s.0 j (spans_within a text i s.0 le s.1) s.2
spans_within (choice a b) text i j le (inl s) = spans_within a text i j le s
spans_within (choice a b) text i j le (inr s) = spans_within b text i j le s
spans_within (repetition least most a) text i j le s =
    chain_within (Spans a text) (length text) s.0 i j (λ k l within r. spans_within a text k l within r) le s.3
spans_within (lookahead true a) text i j le s = omega (arith, s.0, le)
spans_within (lookahead false a) text i j le s = omega (arith, s.0, le)

-- walks begin at each place of the text
abbrev pub in_text : List ℕ → ℕ → Bool
in_text text b = nat_le b (length text)

-- no walk comes to the end before that place
abbrev pub none_before : List Piece → List ℕ → (ℕ → Bool) → List Step → ℕ → Type 0
none_before pieces text begins steps place =
    (k : ℕ) → k < place → IsAlive (Passes Forward pieces text) begins steps (length steps) k → ⊥

pub first_backward : (pieces : List Piece) (text : List ℕ) (steps : List Step) (at j : ℕ)
    → IsAlive (Passes Backward pieces text) (in_text text) steps at j → After Backward j (length text) → ⊥
first_backward pieces text steps at j a after =
    omega (
      arith,
      after,
      alive_within Backward pieces text (in_text text) steps (λ b h. leb-true b (length text) h) a.0
          at j a.1,
    )

pub first_forward : (pieces : List Piece) (text : List ℕ) (begins : ℕ → Bool) (steps : List Step) (at j : ℕ)
    → IsAlive (Passes Forward pieces text) begins steps at j → After Forward j 0 → ⊥
first_forward pieces text begins steps at j a after = omega (arith, after)

-- what a lookahead's answer is by what is alive
abbrev elim_answer : Bool → Type 0 → Type 0
elim_answer holds S = MatchBool holds S (S → ⊥)

module _ (pieces : List Piece) (text : List ℕ) (number : ℕ) (negated : Bool)
    (stands : slice_get pieces number ≡ Some (Lookahead negated)) where
  answer_by : (place : ℕ) (n found : Bool) → ((x : ℕ) × Spans (tree_of (take number pieces)) text place x
      → found ≡ true) → (found ≡ true → (x : ℕ) × Spans (tree_of (take number pieces)) text place x)
      → elim_answer (differs n found) (Spans (lookahead n (tree_of (take number pieces))) text place place)
  answer_by place true true to from = λ s. s.1 (from refl).0 (from refl).1
  answer_by place true false to from = (refl, λ x s. false≢true (to (x, s)))
  answer_by place false true to from = (refl, from refl)
  answer_by place false false to from = λ s. false≢true (to s.1)

  pub answers_here : (place : ℕ) (found : Bool) (waiting taken next : List ℕ) → place ≤ length text
      → Settled Backward (Passes Backward pieces text) (in_text text) (part_steps Backward pieces number) place waiting
      taken next
      → found ≡ has taken (length (part_steps Backward pieces number))
      → Answers pieces text number place (differs negated found)
  answers_here place found waiting taken next le s is =
      subst (λ (t : Tree). elim_answer (differs negated found) (Spans t text place place))
      (sym (tree_at_is pieces number (Lookahead negated) stands)) (answer_by place negated found to from)
    where
      to : (x : ℕ) × Spans (tree_of (take number pieces)) text place x → found ≡ true
      to h = is ∙ s.alive (length (part_steps Backward pieces number))
          (ends_alive (Passes Backward pieces text) (in_text text) place (part_steps Backward pieces number)
          (λ i j. Spans (tree_of (take number pieces)) text j i)
          (first_walks Backward pieces text place number (omega
          (arith, slice_get_within pieces number (Lookahead negated) stands))) h.0
          (le-leb h.0 (length text) (spans_within (tree_of (take number pieces)) text place h.0 le h.1)) h.1)
          (omega arith)

      from : found ≡ true → (x : ℕ) × Spans (tree_of (take number pieces)) text place x
      from y =
          let e = alive_ends (Passes Backward pieces text) (in_text text) place (part_steps Backward pieces number)
          (λ i j. Spans (tree_of (take number pieces)) text j i)
          (first_walks Backward pieces text place number (omega
          (arith, slice_get_within pieces number (Lookahead negated) stands)))
          (s.taken_by (length (part_steps Backward pieces number)) (sym is ∙ y)) in
          (e.0, e.2)

-- a table so far
pub record Tabling (pieces : List Piece) (text : List ℕ) (number count : ℕ) (table : List Bool) : Type 0 where
  pub counted : length table ≡ count
  pub told : (k : ℕ) → k < count → (holds : Bool) × (slice_get table k ≡ Some holds)
      × Answers pieces text number (length text - k) holds

pub tabling_none : (pieces : List Piece) (text : List ℕ) (number : ℕ) (table : List Bool) → table ≡ []
    → Tabling pieces text number 0 table
tabling_none pieces text number table e = record { counted = ap length e; told = λ k lt. absurd (omega (arith, lt)) }

pub tabling_more : (pieces : List Piece) (text : List ℕ) (number count : ℕ) (table new : List Bool) (holds : Bool)
    → Tabling pieces text number count table → new ≡ table ++ holds ∷ []
    → Answers pieces text number (length text - count) holds → Tabling pieces text number (count + 1) new
tabling_more pieces text number count table new holds t e a =
    subst (λ (u : List Bool). Tabling pieces text number (count + 1) u) (sym e) record {
      counted = omega (arith, length-append table (holds ∷ []), t.counted);
      told = λ k lt. by_order k (lt_or_same k count (omega (arith, lt)));
    }
  where
    by_order : (k : ℕ) → (k < count) ⊎ (k ≡ count) → (h : Bool) × (slice_get (table ++ holds ∷ []) k ≡ Some h)
        × Answers pieces text number (length text - k) h
    by_order k (inl lt) = let old = t.told k lt in (old.0, slice_get-append table (holds ∷ []) k old.0 old.1, old.2)
    by_order k (inr same) = (
      holds,
      subst (λ (x : ℕ). slice_get (table ++ holds ∷ []) x ≡ Some holds) (t.counted ∙ sym same)
          (slice_get_end table holds []),
      subst (λ (x : ℕ). Answers pieces text number (length text - x) holds) (sym same) a,
    )

pub tabling_all : (pieces : List Piece) (text : List ℕ) (number count : ℕ) (table : List Bool) → length text < count
    → Tabling pieces text number count table → Tells pieces text number table
tabling_all pieces text number count table lt t = record {
  told = λ k le.
      let h = t.told (length text - k) (omega (arith, lt)) in
      let same : length text - (length text - k) ≡ k = omega (arith, le) in
      (h.0, h.1, subst (λ (x : ℕ). Answers pieces text number x h.0) same h.2);
}

-- what is found by what is alive
module _ (pieces : List Piece) (text : List ℕ) where
  pub found_here : (place : ℕ) → IsAlive (Passes Forward pieces text) (may_begin (tree_of pieces) text)
      (steps_of Forward pieces) (length (steps_of Forward pieces)) place → IsFound (tree_of pieces) text
  found_here place a =
      let e = alive_ends (Passes Forward pieces text) (may_begin (tree_of pieces) text) place (steps_of Forward pieces)
      (Spans (tree_of pieces) text) (whole_walks Forward pieces text place) a in
      (e.0, place, begins_within (tree_of pieces) text e.0 e.1, e.2)

  pub found_nowhere : (place : ℕ) → length text < place
      → none_before pieces text (may_begin (tree_of pieces) text) (steps_of Forward pieces) place
      → IsFound (tree_of pieces) text → ⊥
  found_nowhere place lt none f =
      none f.1 (omega (arith, lt, spans_within (tree_of pieces) text f.0 f.1 f.2 f.3))
      (ends_alive (Passes Forward pieces text) (may_begin (tree_of pieces) text) f.1 (steps_of Forward pieces)
      (Spans (tree_of pieces) text) (whole_walks Forward pieces text f.1) f.0
      (begins_right (tree_of pieces) text f.0 f.1 f.2 f.3) f.3)

-- where more is told, less is left to tell
no_more_untold : (old new : List (Option (Vec Bool))) → length new ≡ length old
    → ((k : ℕ) → IsTold old k → IsTold new k) → untold_count new ≤ untold_count old
no_more_untold [] [] e kept = omega arith
no_more_untold [] (y ∷ new) e kept = absurd (omega (arith, e))
no_more_untold (x ∷ old) [] e kept = absurd (omega (arith, e))
no_more_untold (None ∷ old) (None ∷ new) e kept =
    omega (arith, no_more_untold old new (omega (arith, e)) (λ k h. kept (suc k) h))
no_more_untold (None ∷ old) (Some table ∷ new) e kept =
    omega (arith, no_more_untold old new (omega (arith, e)) (λ k h. kept (suc k) h))
no_more_untold (Some table ∷ old) (None ∷ new) e kept =
    let h = kept 0 (table, refl) in no_some h.0 (same_Some None (Some h.0) h.1)
no_more_untold (Some table ∷ old) (Some other ∷ new) e kept =
    no_more_untold old new (omega (arith, e)) (λ k h. kept (suc k) h)

pub fewer_untold : (old new : List (Option (Vec Bool))) (number : ℕ) → length new ≡ length old
    → ((k : ℕ) → IsTold old k → IsTold new k) → slice_get old number ≡ Some None → IsTold new number
    → untold_count new < untold_count old
fewer_untold [] new number e kept was now = cc
fewer_untold (x ∷ old) [] number e kept was now = absurd (omega (arith, e))
fewer_untold (Some table ∷ old) (y ∷ new) zero e kept was now = no_some table (same_Some None (Some table) (sym was))
fewer_untold (None ∷ old) (None ∷ new) zero e kept was now = no_some now.0 (same_Some None (Some now.0) now.1)
fewer_untold (None ∷ old) (Some table ∷ new) zero e kept was now =
    omega (arith, no_more_untold old new (omega (arith, e)) (λ k h. kept (suc k) h))
fewer_untold (None ∷ old) (None ∷ new) (suc number) e kept was now =
    omega (arith, fewer_untold old new number (omega (arith, e)) (λ k h. kept (suc k) h) was now)
fewer_untold (None ∷ old) (Some table ∷ new) (suc number) e kept was now =
    omega (arith, fewer_untold old new number (omega (arith, e)) (λ k h. kept (suc k) h) was now)
fewer_untold (Some table ∷ old) (None ∷ new) (suc number) e kept was now =
    let h = kept 0 (table, refl) in no_some h.0 (same_Some None (Some h.0) h.1)
fewer_untold (Some table ∷ old) (Some other ∷ new) (suc number) e kept was now =
    fewer_untold old new number (omega (arith, e)) (λ k h. kept (suc k) h) was now

-- a table more
set_cases : {X : Type 0} (xs : List X) (n : ℕ) (v : X) (k : ℕ) (y : X) → slice_get (set xs n v) k ≡ Some y
    → ((k ≡ n) × (v ≡ y)) ⊎ (slice_get xs k ≡ Some y)
set_cases [] n v k y h = inr h
set_cases (x ∷ xs) zero v zero y h = inl (refl, same_Some v y h)
set_cases (x ∷ xs) zero v (suc k) y h = inr h
set_cases (x ∷ xs) (suc n) v zero y h = inr h
set_cases (x ∷ xs) (suc n) v (suc k) y h = by_cases (set_cases xs n v k y h)
  where
    by_cases : ((k ≡ n) × (v ≡ y)) ⊎ (slice_get xs k ≡ Some y) → ((suc k ≡ suc n) × (v ≡ y)) ⊎ (slice_get xs k ≡ Some y)
    by_cases (inl e) = inl (ap suc e.0, e.1)
    by_cases (inr g) = inr g

set_here : {X : Type 0} (xs : List X) (n : ℕ) (v : X) → n < length xs → slice_get (set xs n v) n ≡ Some v
set_here [] n v lt = absurd (omega (arith, lt))
set_here (x ∷ xs) zero v lt = refl
set_here (x ∷ xs) (suc n) v lt = set_here xs n v (omega (arith, lt))

pub told_now : (tables : List (Option (Vec Bool))) (number : ℕ) (table : Vec Bool) → number < length tables
    → IsTold (set tables number (Some table)) number
told_now tables number table lt = (table, set_here tables number (Some table) lt)

pub told_kept : (tables : List (Option (Vec Bool))) (number : ℕ) (table : Vec Bool) (k : ℕ) → number < length tables
    → IsTold tables k → IsTold (set tables number (Some table)) k
told_kept tables number table k lt h = by_number tables number k lt h.1
  where
    by_number : (xs : List (Option (Vec Bool))) (n k : ℕ) → n < length xs → slice_get xs k ≡ Some (Some h.0)
        → IsTold (set xs n (Some table)) k
    by_number [] n k lt at = cc
    by_number (x ∷ xs) zero zero lt at = (table, refl)
    by_number (x ∷ xs) zero (suc k) lt at = (h.0, at)
    by_number (x ∷ xs) (suc n) zero lt at = (h.0, at)
    by_number (x ∷ xs) (suc n) (suc k) lt at = by_number xs n k (omega (arith, lt)) at

pub told_more : (pieces : List Piece) (text : List ℕ) (tables : List (Option (Vec Bool))) (number : ℕ)
    (table : Vec Bool) → AllTell pieces text tables → Tells pieces text number table.items
    → AllTell pieces text (set tables number (Some table))
told_more pieces text tables number table t tells = record {
  counted = length-set tables number (Some table) ∙ t.counted;
  each = λ k negated other at there. by_cases k negated other at
      (set_cases tables number (Some table) k (Some other) there);
}
  where
    by_cases : (k : ℕ) (negated : Bool) (other : Vec Bool) → slice_get pieces k ≡ Some (Lookahead negated)
        → ((k ≡ number) × (◌≡◌ {A = Option (Vec Bool)} (Some table) (Some other)))
        ⊎ (slice_get tables k ≡ Some (Some other)) → Tells pieces text k other.items
    by_cases k negated other at (inl e) = subst (λ (n : ℕ). Tells pieces text n other.items) (sym e.0)
        (subst (λ (v : Vec Bool). Tells pieces text number v.items) (same_Some table other e.1) tells)
    by_cases k negated other at (inr there) = t.each k negated other at there

-- a lookahead that is told isn't asked
pub told_unasked : (pieces : List Piece) (tables : List (Option (Vec Bool))) (number : ℕ) → IsTold tables number
    → IsUntold pieces tables number → ⊥
told_unasked pieces tables number h u = no_some h.0 (same_Some None (Some h.0) (sym u.untold ∙ h.1))

-- where no lookahead is asked, the steps are settled
pub none_asked : (pieces : List Piece) (tables : List (Option (Vec Bool))) (steps : List Step) (asked : Option ℕ)
    (P : Type 0) (Q : ℕ → Type 0) → MatchOption asked (Unit {0}) (IsAsked pieces tables steps)
    → ((k : ℕ) → IsAsked pieces tables steps k → ⊥) → MatchOption asked P Q → P
none_asked pieces tables steps None P Q a none h = h
none_asked pieces tables steps (Some k) P Q a none h = absurd (none k a)

-- the sets, from place to place
module _ (d : Direction) (pieces : List Piece) (text : List ℕ) (begins : ℕ → Bool) (steps : List Step) where
  pub first_by : (place : ℕ) (alive : Alive) → ((at j : ℕ) → IsAlive (Passes d pieces text) begins steps at j
      → After d j place → ⊥) → alive.waiting.items ≡ [] → alive.next.items ≡ []
      → ((n : ℕ) → has alive.taken.words.items n ≡ false)
      → ArrivesBy d pieces text begins steps place alive
  first_by place alive first e f none = arrives_first d pieces text begins steps place alive.waiting.items
      alive.taken.words.items alive.next.items first e f none

  pub begun_by : (place : ℕ) (old new : Alive) → new.waiting.items ≡ old.waiting.items ++ 0 ∷ [] → new.taken ≡ old.taken
      → new.next ≡ old.next → begins place ≡ true → ArrivesBy d pieces text begins steps place old
      → SettlingBy d pieces text begins steps place new
  begun_by place old new e f g yes_ a =
      subst (λ (w : List ℕ). Settling d (Passes d pieces text) begins steps place w new.taken.words.items
      new.next.items) (sym e)
      (subst (λ (t : NumberSet). Settling d (Passes d pieces text) begins steps place (old.waiting.items ++ 0 ∷ [])
      t.words.items new.next.items) (sym f)
      (subst (λ (v : Vec ℕ). Settling d (Passes d pieces text) begins steps place (old.waiting.items ++ 0 ∷ [])
      old.taken.words.items v.items) (sym g)
      (settling_begun d pieces text begins steps place old.waiting.items old.taken.words.items old.next.items yes_ a)))

  pub unbegun_by : (place : ℕ) (alive : Alive) → begins place ≡ false → ArrivesBy d pieces text begins steps place alive
      → SettlingBy d pieces text begins steps place alive
  unbegun_by place alive no_ a = settling_unbegun d pieces text begins steps place alive.waiting.items
      alive.taken.words.items alive.next.items no_ a

  pub next_by : (place after : ℕ) (old new : Alive) → After d place after → new.waiting ≡ old.next
      → new.next ≡ old.waiting → ((n : ℕ) → has new.taken.words.items n ≡ false)
      → SettledBy d pieces text begins steps place old
      → ArrivesBy d pieces text begins steps after new
  next_by place after old new a e f none s =
      arrives_next d pieces text begins steps place after old.waiting.items old.taken.words.items old.next.items
      new.waiting.items new.taken.words.items new.next.items a s (ap (λ (v : Vec ℕ). v.items) e)
      (ap (λ (v : Vec ℕ). v.items) f) none

-- a place that is passed
module _ (pieces : List Piece) (text : List ℕ) (begins : ℕ → Bool) (steps : List Step) (place : ℕ) where
  pub passed_by : (ended : Bool) (old new : Alive) → ended ≡ has old.taken.words.items (length steps)
      → new.waiting ≡ old.next → new.next ≡ old.waiting → ((n : ℕ) → has new.taken.words.items n ≡ false)
      → SettledBy Forward pieces text begins steps place old
      → PassedBy pieces text begins steps place ended new
  passed_by ended old new is e f none s = record {
    ends = λ y. s.taken_by (length steps) (sym is ∙ y);
    ends_not = λ n a. false≢true (sym n ∙ is ∙ s.alive (length steps) a (omega arith));
    arrives = next_by Forward pieces text begins steps place (place + 1) old new refl e f none s;
  }

  -- one at which nothing is alive
  pub idle_by : (alive : Alive) → alive.waiting.items ≡ [] → begins place ≡ false
      → ArrivesBy Forward pieces text begins steps place alive → PassedBy pieces text begins steps place false alive
  idle_by alive empty no_ a = record {
    ends = λ y. absurd (false≢true y);
    ends_not = λ n b. a.none_taken (length steps) (settled.alive (length steps) b (omega arith));
    arrives = arrives_next Forward pieces text begins steps place (place + 1) alive.waiting.items
        alive.taken.words.items alive.next.items alive.waiting.items alive.taken.words.items alive.next.items refl
        settled
        (empty ∙ sym a.none_next) (a.none_next
        ∙ sym empty) (λ n. not_true (has alive.taken.words.items n) (a.none_taken n));
  }
    where
      settled : SettledBy Forward pieces text begins steps place alive
      settled = settled_by Forward pieces text begins steps place alive.waiting.items alive.taken.words.items
          alive.next.items empty (settling_unbegun Forward pieces text begins steps place alive.waiting.items
          alive.taken.words.items alive.next.items no_ a)

      not_true : (b : Bool) → (b ≡ true → ⊥) → b ≡ false
      not_true true h = absurd (h refl)
      not_true false h = refl

  pub none_further : none_before pieces text begins steps place
      → (IsAlive (Passes Forward pieces text) begins steps (length steps) place → ⊥)
      → none_before pieces text begins steps (place + 1)
  none_further none here k lt a = by_order (lt_or_same k place (omega (arith, lt)))
    where
      by_order : (k < place) ⊎ (k ≡ place) → ⊥
      by_order (inl before) = none k before a
      by_order (inr e) =
          here (subst (λ (x : ℕ). IsAlive (Passes Forward pieces text) begins steps (length steps) x) e a)

  -- one at which nothing is alive, where none begins from there on
  pub none_at_all : (alive : Alive) → alive.waiting.items ≡ [] → ((m : ℕ) → place ≤ m → begins m ≡ true → ⊥)
      → ArrivesBy Forward pieces text begins steps place alive → none_before pieces text begins steps place → (size : ℕ)
      → none_before pieces text begins steps size
  none_at_all alive empty none a before size k lt b = by_order (lt_or_le k place)
    where
      by_order : (k < place) ⊎ (place ≤ k) → ⊥
      by_order (inl earlier) = before k earlier b
      by_order (inr later) = none_alive pieces text begins steps place alive.taken.words.items alive.next.items
          (subst (λ (w : List ℕ). Arrives Forward (Passes Forward pieces text) begins steps place w
          alive.taken.words.items alive.next.items) empty a) none b.0 (length steps) k later (omega arith) b.1

-- the steps of a lookahead's part
pub the_part : (pieces : List Piece) (lookaheads : List (Vec Step)) (number : ℕ) (negated : Bool) (steps : Vec Step)
    → AllParts pieces lookaheads → slice_get pieces number ≡ Some (Lookahead negated)
    → slice_get lookaheads number ≡ Some steps → steps.items ≡ part_steps Backward pieces number
the_part pieces lookaheads number negated steps parts at there =
    let p = parts number negated at in
    ap (λ (v : Vec Step). v.items) (same_Some steps p.0 (sym there ∙ p.1)) ∙ p.2

-- what is missing isn't there, and what isn't missing is
pub missing : {X : Type 0} (o : Option X) → is_some o ≡ false → o ≡ None
missing None h = refl
missing (Some x) h = absurd (false≢true (sym h))

pub not_missing : {X : Type 0} (o : Option X) → is_some o ≡ true → (x : X) × (o ≡ Some x)
not_missing None h = absurd (false≢true h)
not_missing (Some x) h = (x, refl)

pub found_if : {E : Type 0} (r : Result Bool E) (tree : Tree) (borrowed text : List ℕ) → borrowed ≡ text
    → IfOk r (λ found. IsTrue found ↔ IsFound tree borrowed) → IfOk r (λ found. IsTrue found ↔ IsFound tree text)
found_if r tree borrowed text e h = subst (λ (t : List ℕ). IfOk r (λ found. IsTrue found ↔ IsFound tree t)) e h

-- places at which nothing is alive
pub idle_for : (pieces : List Piece) (text : List ℕ) (begins : ℕ → Bool) (steps : List Step) (alive : Alive)
    (n from : ℕ) → IsIdle begins alive from (from + n) → ArrivesBy Forward pieces text begins steps from alive
    → none_before pieces text begins steps from → ArrivesBy Forward pieces text begins steps (from + n) alive
    × none_before pieces text begins steps (from + n)
idle_for pieces text begins steps alive zero from idle a none =
    let same : from ≡ from + 0 = omega arith in
    subst (λ (x : ℕ). ArrivesBy Forward pieces text begins steps x alive × none_before pieces text begins steps x)
    same (a, none)
idle_for pieces text begins steps alive (suc n) from idle a none =
    let here = idle from (omega arith) (omega arith) in
    let passed = idle_by pieces text begins steps from alive here.0 here.1 a in
    subst (λ (x : ℕ). ArrivesBy Forward pieces text begins steps x alive × none_before pieces text begins steps x)
    (omega arith)
    (idle_for pieces text begins steps alive n (from + 1) (λ k le lt. idle k (omega (arith, le)) (omega (arith, lt)))
    passed.arrives (none_further pieces text begins steps from none (passed.ends_not refl)))

pub idle_till : (pieces : List Piece) (text : List ℕ) (begins : ℕ → Bool) (steps : List Step) (alive : Alive)
    (from to : ℕ) → from ≤ to → IsIdle begins alive from to → ArrivesBy Forward pieces text begins steps from alive
    → none_before pieces text begins steps from → ArrivesBy Forward pieces text begins steps to alive
    × none_before pieces text begins steps to
idle_till pieces text begins steps alive from to le idle a none =
    let same : from + (to - from) ≡ to = omega (arith, le) in
    subst (λ (x : ℕ). ArrivesBy Forward pieces text begins steps x alive × none_before pieces text begins steps x) same
    (idle_for pieces text begins steps alive (to - from) from (λ k first lt. idle k first (omega (arith, same, lt))) a
    none)
