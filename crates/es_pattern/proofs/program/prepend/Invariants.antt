use Rattle.std.proofs.Common.{◌≡◌, ◌++◌, length}
use Rattle.es_pattern.proofs.program.prepend.Given as goal

abbrev pub invariant-loop-step : goal.invariant-loop-step
invariant-loop-step l = l.before.items ++ l.steps.items ≡ l.initial.before.items ++ l.initial.steps.items

abbrev pub decreases-loop-step : goal.decreases-loop-step
decreases-loop-step l = length l.before.items
