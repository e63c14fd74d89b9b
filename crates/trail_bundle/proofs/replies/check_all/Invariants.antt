use Rattle.std.specs.Slice.Iter.{iter_rest}
use Rattle.trail_bundle.specs.Steps.{steps_of}
use Rattle.trail_bundle.proofs.Keeping.{Agreed}
use Rattle.trail_bundle.proofs.replies.check_all.Given as goal

-- the questions before what is left have no two replies
abbrev pub invariant-loop-step : goal.invariant-loop-step
invariant-loop-step l = Agreed (steps_of l.replies.entries) l.trail (iter_rest l.step-iterator)
