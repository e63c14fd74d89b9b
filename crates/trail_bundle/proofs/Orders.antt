-- Questions in order: which stand behind others, and what is put at the end.
use Rattle.std.proofs.Common.{
  ◌≡◌,
  ◌&&◌,
  ℕ,
  zero,
  suc,
  Bool,
  true,
  false,
  List,
  [],
  ◌∷◌,
  ◌++◌,
  Some,
  Ordering,
  Less,
  Equal,
  Greater,
  refl,
  sym,
  ap,
  ◌∙◌,
}
use Rattle.std.specs.BTreeMap.{insert_entry}
use Rattle.std.specs.FinMap.{is_sorted}
use Rattle.std.specs.FinMap.Entries.{below_all}
use Rattle.std.specs.List.{All, list_all, slice_get}
use Rattle.std.specs.Map.{keys_of}
use Rattle.std.specs.Ordering.{is_lt, match_ordering, ordering_reverse}
use Rattle.std.proofs.lemmas.List.Elements.{All-head, All-tail}
use Rattle.sugar_path.proofs.Bools.{and_both, and_left, and_right}
use Rattle.tree_core.specs.declared.question.Question.{Question}
use Rattle.tree_core.specs.declared.question.Reply.{Reply}
use Rattle.trail_bundle.specs.declared.ordered.Ordered.{Ordered}
use Rattle.trail_bundle.specs.Bundle.{AreReplies, is_reply}
use Rattle.trail_bundle.specs.QuestionOrder.{question_cmp, question_cmp_total}
use Rattle.trail_bundle.specs.Steps.{above_all, steps_of}

abbrev pub ordered_cmp : Ordered → Ordered → Ordering
ordered_cmp a b = question_cmp a.question b.question

less : (r : Ordering) → is_lt r ≡ true → r ≡ Less
less Less h = refl
less Equal h = cc
less Greater h = cc

-- what is no later than one that stands before a third stands before it
no_later : (p q r : Question) → is_lt (question_cmp q p) ≡ false → is_lt (question_cmp q r) ≡ true
    → is_lt (question_cmp p r) ≡ true
no_later p q r h k = by_order (question_cmp p q) refl
  where
    by_order : (c : Ordering) → question_cmp p q ≡ c → is_lt (question_cmp p r) ≡ true
    by_order Less is = ap is_lt (question_cmp_total.trans p q r is (less _ k))
    by_order Equal is = ap is_lt (question_cmp_total.congr p q r is) ∙ k
    by_order Greater is =
        let back : question_cmp q p ≡ Less = question_cmp_total.antisymm q p ∙ ap ordering_reverse is in
        let no = sym h ∙ ap is_lt back in
        cc

all_before : (last : Ordered) (q : Question) (es : List (Ordered × Reply))
    → All (λ k. is_lt (ordered_cmp last k) ≡ false) (keys_of es) → is_lt (question_cmp last.question q) ≡ true
    → above_all q (steps_of es) ≡ true
all_before last q [] all h = refl
all_before last q (e ∷ es) all h =
    and_both (is_lt (question_cmp e.0.question q)) _ (no_later e.0.question last.question q
    (All-head (λ k. is_lt (ordered_cmp last k) ≡ false) e.0 (keys_of es) all) h)
    (all_before last q es (All-tail (λ k. is_lt (ordered_cmp last k) ≡ false) e.0 (keys_of es) all) h)

one_not : (q : Question) (es : List (Ordered × Reply)) (i : ℕ) (e : Ordered × Reply) → slice_get es i ≡ Some e
    → is_lt (question_cmp e.0.question q) ≡ false → above_all q (steps_of es) ≡ false
one_not q [] i e is h = cc
one_not q (f ∷ es) zero e is h =
    let same : f ≡ e = cc in
    ap (λ (g : Ordered × Reply). is_lt (question_cmp g.0.question q) && above_all q (steps_of es)) same
    ∙ ap (λ b. b && above_all q (steps_of es)) h
one_not q (f ∷ es) (suc i) e is h = by_first (is_lt (question_cmp f.0.question q)) (one_not q es i e is h)
  where
    by_first : (b : Bool) → above_all q (steps_of es) ≡ false → b && above_all q (steps_of es) ≡ false
    by_first true rest = rest
    by_first false rest = refl

-- the last of a map tells which stand behind all
pub behind_last : (last : Ordered) (q : Question) (es : List (Ordered × Reply)) (i : ℕ) (r : Reply)
    → All (λ k. is_lt (ordered_cmp last k) ≡ false) (keys_of es) → slice_get es i ≡ Some (last, r)
    → is_lt (question_cmp last.question q) ≡ above_all q (steps_of es)
behind_last last q es i r all at = by_test (is_lt (question_cmp last.question q)) refl
  where
    by_test : (b : Bool) → is_lt (question_cmp last.question q) ≡ b → b ≡ above_all q (steps_of es)
    by_test true is = sym (all_before last q es all is)
    by_test false is = sym (one_not q es i (last, r) at is)

-- what stands behind all is put at the end
pub insert_last : (es : List (Ordered × Reply)) (k : Ordered) (r : Reply) → above_all k.question (steps_of es) ≡ true
    → steps_of (insert_entry ordered_cmp es k r) ≡ steps_of es ++ (k.question, r) ∷ []
insert_last [] k r h = refl
insert_last (e ∷ es) k r h =
    let first = less _ (and_left (is_lt (question_cmp e.0.question k.question)) _ h) in
    let later : question_cmp k.question e.0.question ≡ Greater =
    question_cmp_total.antisymm k.question e.0.question ∙ ap ordering_reverse first in
    ap (λ c. steps_of (match_ordering c ((k, r) ∷ e ∷ es) ((e.0, r) ∷ es) (e ∷ insert_entry ordered_cmp es k r))) later
    ∙ ap (λ steps. (e.0.question, e.1) ∷ steps) (insert_last es k r
    (and_right (is_lt (question_cmp e.0.question k.question)) _ h))

below-behind : (q : Question) (steps : List (Question × Reply)) (step : Question × Reply)
    → below_all question_cmp q steps ≡ true → is_lt (question_cmp q step.0) ≡ true
    → below_all question_cmp q (steps ++ step ∷ []) ≡ true
below-behind q [] step h k = and_both (is_lt (question_cmp q step.0)) true k refl
below-behind q (s ∷ steps) step h k = and_both (is_lt (question_cmp q s.0)) _ (and_left _ _ h)
    (below-behind q steps step (and_right (is_lt (question_cmp q s.0)) _ h) k)

sorted-behind : (steps : List (Question × Reply)) (step : Question × Reply) → is_sorted question_cmp steps ≡ true
    → above_all step.0 steps ≡ true → is_sorted question_cmp (steps ++ step ∷ []) ≡ true
sorted-behind [] step h k = refl
sorted-behind (s ∷ steps) step h k =
    and_both (below_all question_cmp s.0 (steps ++ step ∷ [])) _
    (below-behind s.0 steps step (and_left _ _ h) (and_left (is_lt (question_cmp s.0 step.0)) _ k))
    (sorted-behind steps step (and_right (below_all question_cmp s.0 steps) _ h)
    (and_right (is_lt (question_cmp s.0 step.0)) _ k))

fit-behind : (steps : List (Question × Reply)) (step : Question × Reply) → list_all is_reply steps ≡ true
    → is_reply step ≡ true → list_all is_reply (steps ++ step ∷ []) ≡ true
fit-behind [] step h k = and_both (is_reply step) true k refl
fit-behind (s ∷ steps) step h k =
    and_both (is_reply s) _ (and_left _ _ h) (fit-behind steps step (and_right (is_reply s) _ h) k)

pub replies-behind : (steps : List (Question × Reply)) (step : Question × Reply) → AreReplies steps
    → above_all step.0 steps ≡ true → is_reply step ≡ true → AreReplies (steps ++ step ∷ [])
replies-behind steps step are above fits = record {
  ascend = sorted-behind steps step are.ascend above;
  fit = fit-behind steps step are.fit fits;
}

below-last : (q : Question) (steps : List (Question × Reply)) (step : Question × Reply)
    → below_all question_cmp q (steps ++ step ∷ []) ≡ true → is_lt (question_cmp q step.0) ≡ true
below-last q [] step h = and_left _ _ h
below-last q (s ∷ steps) step h = below-last q steps step (and_right (is_lt (question_cmp q s.0)) _ h)

-- the last of replies in order stands behind all others
pub above-last : (steps : List (Question × Reply)) (step : Question × Reply)
    → is_sorted question_cmp (steps ++ step ∷ []) ≡ true → above_all step.0 steps ≡ true
above-last [] step h = refl
above-last (s ∷ steps) step h =
    and_both (is_lt (question_cmp s.0 step.0)) _ (below-last s.0 steps step (and_left _ _ h))
    (above-last steps step (and_right (below_all question_cmp s.0 (steps ++ step ∷ [])) _ h))

pub fit-last : (steps : List (Question × Reply)) (step : Question × Reply)
    → list_all is_reply (steps ++ step ∷ []) ≡ true → is_reply step ≡ true
fit-last [] step h = and_left _ _ h
fit-last (s ∷ steps) step h = fit-last steps step (and_right (is_reply s) _ h)
