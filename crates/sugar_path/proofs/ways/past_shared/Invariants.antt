use Rattle.std.proofs.Common.{◌≡◌, length}
use Rattle.sugar_path.specs.ComponentTypes.{parts_if}
use Rattle.sugar_path.specs.Relative.{between}
use Rattle.sugar_path.proofs.ways.past_shared.Given as goal

-- only parts that both begin with were passed
abbrev pub invariant-loop-left : goal.invariant-loop-left
invariant-loop-left l =
    between (parts_if l.left) (parts_if l.rest) ≡ between (parts_if l.fn.base) (parts_if l.fn.target)

abbrev pub decreases-loop-left : goal.decreases-loop-left
decreases-loop-left l = length (parts_if l.left)
