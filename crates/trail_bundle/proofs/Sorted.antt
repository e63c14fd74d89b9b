-- A map's entries are in order.
use Rattle.std.proofs.Common.{◌≡◌, true, List, [], ◌∷◌, Less, length, refl, ap}
use Rattle.std.proofs.lemmas.List.{length-map}
use Rattle.std.specs.FinMap.{is_sorted}
use Rattle.std.specs.FinMap.Entries.{below_all}
use Rattle.std.specs.List.{AllByRecursion}
use Rattle.std.specs.List.Sorted.{IsStrictlySortedBy}
use Rattle.std.specs.Map.{keys_of}
use Rattle.std.specs.Ordering.{is_lt}
use Rattle.sugar_path.proofs.Bools.{and_both}
use Rattle.tree_core.specs.declared.question.Reply.{Reply}
use Rattle.trail_bundle.specs.declared.ordered.Ordered.{Ordered}
use Rattle.trail_bundle.specs.QuestionOrder.{question_cmp}
use Rattle.trail_bundle.specs.Steps.{steps_of}
use Rattle.trail_bundle.proofs.Orders.{ordered_cmp}

below-keys : (q : Ordered) (es : List (Ordered × Reply)) → AllByRecursion (λ k. ordered_cmp q k ≡ Less) (keys_of es)
    → below_all question_cmp q.question (steps_of es) ≡ true
below-keys q [] h = refl
below-keys q (e ∷ es) h = and_both (is_lt (question_cmp q.question e.0.question)) _ (ap is_lt h.0) (below-keys q es h.1)

pub sorted-entries : (es : List (Ordered × Reply)) → IsStrictlySortedBy ordered_cmp (keys_of es)
    → is_sorted question_cmp (steps_of es) ≡ true
unfolding IsStrictlySortedBy
sorted-entries [] h = refl
sorted-entries (e ∷ es) h =
    and_both (below_all question_cmp e.0.question (steps_of es)) _ (below-keys e.0 es h.0) (sorted-entries es h.1)

pub as_many : (es : List (Ordered × Reply)) → length (steps_of es) ≡ length es
as_many es = length-map es (λ (e : Ordered × Reply). (e.0.question, e.1))
