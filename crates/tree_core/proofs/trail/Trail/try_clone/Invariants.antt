use Rattle.std.proofs.Common.{◌≡◌, take}
use Rattle.tree_core.proofs.trail.Trail.try_clone.Given as goal

-- the copy has the steps so far
abbrev pub invariant-loop-step : goal.invariant-loop-step
invariant-loop-step l = l.copy ≡ take l.step-index l.step-items
