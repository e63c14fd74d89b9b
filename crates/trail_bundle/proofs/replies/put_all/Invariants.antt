use Rattle.std.proofs.Common.{◌≡◌}
use Rattle.std.specs.Slice.Iter.{iter_rest}
use Rattle.tree_core.specs.declared.question.Question.{Question}
use Rattle.trail_bundle.specs.Bundle.{AreReplies}
use Rattle.trail_bundle.specs.Keeping.{kept_without, reply_at}
use Rattle.trail_bundle.specs.Steps.{steps_of}
use Rattle.trail_bundle.proofs.Keeping.{Added}
use Rattle.trail_bundle.proofs.replies.put_all.Given as goal

-- the questions before what is left are in, and without the fresh ones all is as it was
abbrev pub invariant-loop-step : goal.invariant-loop-step
invariant-loop-step l =
    Added (reply_at l.fn.replies) (reply_at l.replies) l.trail (iter_rest l.step-iterator)
    × ((q : Question) → kept_without l.fresh.items l.replies q ≡ reply_at l.fn.replies q)
    × (AreReplies (steps_of l.fn.replies.entries) → AreReplies (steps_of l.replies.entries))
