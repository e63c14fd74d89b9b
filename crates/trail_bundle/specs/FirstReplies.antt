-- The first replies of a trail, as a bundle holds them.
use Rattle.std.specs.Prelude.{List}
use Rattle.std.specs.FinMap.{entries, from_entries}
use Rattle.tree_core.specs.declared.question.Question.{Question}
use Rattle.tree_core.specs.declared.question.Reply.{Reply}
use Rattle.trail_bundle.specs.QuestionOrder.{question_cmp}

-- the finite map of replies to the questions that stand in a trail, in the order of the questions
abbrev pub replies_in : List (Question × Reply) → List (Question × Reply)
replies_in trail = entries (from_entries {R = question_cmp} trail)
