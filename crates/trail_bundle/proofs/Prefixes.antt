-- The first of a bundle's replies.
use Rattle.std.proofs.Common.{◌≡◌, true, List, [], ◌∷◌, ◌++◌, refl}
use Rattle.std.specs.FinMap.{is_sorted}
use Rattle.std.specs.FinMap.Entries.{below_all}
use Rattle.std.specs.List.{list_all}
use Rattle.std.specs.Ordering.{is_lt}
use Rattle.sugar_path.proofs.Bools.{and_both, and_left, and_right}
use Rattle.tree_core.specs.declared.question.Question.{Question}
use Rattle.tree_core.specs.declared.question.Reply.{Reply}
use Rattle.trail_bundle.specs.Bundle.{AreReplies, is_reply}
use Rattle.trail_bundle.specs.QuestionOrder.{question_cmp}

below-prefix : (q : Question) (before : List (Question × Reply)) (step : Question × Reply)
    (later : List (Question × Reply)) → below_all question_cmp q (before ++ step ∷ later) ≡ true
    → below_all question_cmp q (before ++ step ∷ []) ≡ true
below-prefix q [] step later h = and_both (is_lt (question_cmp q step.0)) true (and_left _ _ h) refl
below-prefix q (s ∷ before) step later h = and_both (is_lt (question_cmp q s.0)) _ (and_left _ _ h)
    (below-prefix q before step later (and_right (is_lt (question_cmp q s.0)) _ h))

sorted-prefix : (before : List (Question × Reply)) (step : Question × Reply) (later : List (Question × Reply))
    → is_sorted question_cmp (before ++ step ∷ later) ≡ true → is_sorted question_cmp (before ++ step ∷ []) ≡ true
sorted-prefix [] step later h = refl
sorted-prefix (s ∷ before) step later h =
    and_both (below_all question_cmp s.0 (before ++ step ∷ [])) _ (below-prefix s.0 before step later (and_left _ _ h))
    (sorted-prefix before step later (and_right (below_all question_cmp s.0 (before ++ step ∷ later)) _ h))

fit-prefix : (before : List (Question × Reply)) (step : Question × Reply) (later : List (Question × Reply))
    → list_all is_reply (before ++ step ∷ later) ≡ true → list_all is_reply (before ++ step ∷ []) ≡ true
fit-prefix [] step later h = and_both (is_reply step) true (and_left _ _ h) refl
fit-prefix (s ∷ before) step later h =
    and_both (is_reply s) _ (and_left _ _ h) (fit-prefix before step later (and_right (is_reply s) _ h))

pub replies-prefix : (before : List (Question × Reply)) (step : Question × Reply) (later : List (Question × Reply))
    → AreReplies (before ++ step ∷ later) → AreReplies (before ++ step ∷ [])
replies-prefix before step later are = record {
  ascend = sorted-prefix before step later are.ascend;
  fit = fit-prefix before step later are.fit;
}
