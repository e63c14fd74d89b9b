-- What a map has for a question.
use Rattle.std.specs.Prelude.{Bool, cond, List, Option, None}
use Rattle.std.specs.BTreeMap.{BTreeMap}
use Rattle.std.specs.List.{list_any}
use Rattle.tree_core.specs.declared.question.Question.{Question}
use Rattle.tree_core.specs.declared.question.Reply.{Reply}
use Rattle.tree_core.specs.Question.{question_eq, reply_in}
use Rattle.trail_bundle.specs.declared.ordered.Ordered.{Ordered}
use Rattle.trail_bundle.specs.Steps.{steps_of}

abbrev pub reply_at : BTreeMap Ordered Reply → Question → Option Reply
reply_at m q = reply_in (steps_of m.entries) q

-- whether a question is one of these
abbrev pub is_among : List Ordered → Question → Bool
is_among questions q = list_any (λ o. question_eq o.question q) questions

-- what a map has for a question but for these
abbrev pub kept_without : List Ordered → BTreeMap Ordered Reply → Question → Option Reply
kept_without questions m q = cond (is_among questions q) None (reply_at m q)

-- the first reply of a trail to a question that some steps ask
abbrev pub first_of : List (Question × Reply) → List (Question × Reply) → Question → Option Reply
first_of trail steps q = cond (list_any (λ step. question_eq step.0 q) steps) (reply_in trail q) None
