-- The first replies of trails, one behind the other, and the list of them in order.
use Rattle.std.specs.FinMap as finite
use Rattle.std.specs.FinMap.{entries, entries_sorted, from_entries, get-entries, get-from_entries}
use Rattle.std.specs.FinMap.Entries.{same_entries}
use Rattle.std.proofs.Common.{◌≡◌, Bool, true, false, cond, List, [], ◌∷◌, ◌++◌, Some, refl, sym, ◌∙◌}
use Rattle.std.specs.Bool.{passes}
use Rattle.std.specs.Option.{option_or}
use Rattle.tree_core.specs.Question.{question_eq, reply_in}
use Rattle.tree_core.specs.declared.question.Question.{Question}
use Rattle.tree_core.specs.declared.question.Reply.{Reply}
use Rattle.trail_bundle.specs.Bundle.{AreReplies}
use Rattle.trail_bundle.specs.FirstReplies.{replies_in}
use Rattle.trail_bundle.specs.QuestionOrder.{question_cmp, question_cmp_total}
use Rattle.trail_bundle.proofs.Keeping.{find_is, one_question}

-- the first reply of two lists
pub reply-append : (xs ys : List (Question × Reply)) (q : Question)
    → reply_in (xs ++ ys) q ≡ option_or (reply_in xs q) (reply_in ys q)
reply-append [] ys q = refl
reply-append (x ∷ xs) ys q = by_test (question_eq x.0 q) (reply-append xs ys q)
  where
    by_test : (b : Bool) → reply_in (xs ++ ys) q ≡ option_or (reply_in xs q) (reply_in ys q)
        → cond b (Some x.1) (reply_in (xs ++ ys) q) ≡ option_or (cond b (Some x.1) (reply_in xs q)) (reply_in ys q)
    by_test true rest = refl
    by_test false rest = rest

-- what the map of first replies has for a question
pub reply-first : (trail : List (Question × Reply)) (q : Question)
    → reply_in (replies_in trail) q ≡ reply_in trail q
reply-first trail q =
    sym (find_is (replies_in trail) q) ∙ sym (get-entries (from_entries {R = question_cmp} trail) q)
    ∙ get-from_entries question_cmp_total trail q ∙ find_is trail q

-- replies in order are those of the finite map
pub same_replies : (replies trail : List (Question × Reply)) → AreReplies replies
    → ((q : Question) → reply_in replies q ≡ reply_in trail q) → replies ≡ replies_in trail
same_replies replies trail are same =
    let made : finite.FinMap question_cmp Reply = from_entries trail in
    same_entries question_cmp question_cmp_total one_question replies (entries made) (passes _ are.ascend)
    (entries_sorted made)
    (λ q. find_is replies q ∙ same q ∙ sym (find_is trail q) ∙ sym (get-from_entries question_cmp_total trail q)
    ∙ get-entries made q)
