use Rattle.std.proofs.Common.{◌≡◌, length}
use Rattle.sugar_path.specs.Borrowed.{without_last_slashes}
use Rattle.sugar_path.proofs.borrowed.without_last_slashes.Given as goal

-- nothing but separators was dropped
abbrev pub invariant-loop-shorter : goal.invariant-loop-shorter
invariant-loop-shorter l = without_last_slashes l.front ≡ without_last_slashes l.fn.path

abbrev pub decreases-loop-shorter : goal.decreases-loop-shorter
decreases-loop-shorter l = length l.front
