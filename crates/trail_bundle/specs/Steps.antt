-- What a map of the code has, as a list of questions with replies.
use Rattle.std.specs.Prelude.{Bool, List, map}
use Rattle.std.specs.List.{list_all}
use Rattle.std.specs.Ordering.{is_lt}
use Rattle.tree_core.specs.declared.question.Question.{Question}
use Rattle.tree_core.specs.declared.question.Reply.{Reply}
use Rattle.trail_bundle.specs.declared.ordered.Ordered.{Ordered}
use Rattle.trail_bundle.specs.QuestionOrder.{question_cmp}

-- the pairs of a map, in its order
abbrev pub steps_of : List (Ordered × Reply) → List (Question × Reply)
steps_of es = map (λ e. (e.0.question, e.1)) es

-- a question stands behind all those of some steps
abbrev pub above_all : Question → List (Question × Reply) → Bool
above_all q steps = list_all (λ step. is_lt (question_cmp step.0 q)) steps
