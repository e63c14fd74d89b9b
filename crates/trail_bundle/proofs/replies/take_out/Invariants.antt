use Rattle.std.proofs.Common.{◌≡◌, drop}
use Rattle.tree_core.specs.declared.question.Question.{Question}
use Rattle.trail_bundle.specs.Bundle.{AreReplies}
use Rattle.trail_bundle.specs.Keeping.{kept_without}
use Rattle.trail_bundle.specs.Steps.{steps_of}
use Rattle.trail_bundle.proofs.replies.take_out.Given as goal

-- without the questions that are left all is as it was without any of them
abbrev pub invariant-loop-question : goal.invariant-loop-question
invariant-loop-question l =
    ((q : Question) → kept_without (drop l.question-index l.questions) l.replies q ≡ kept_without l.questions
    l.fn.replies q)
    × (AreReplies (steps_of l.fn.replies.entries) → AreReplies (steps_of l.replies.entries))
