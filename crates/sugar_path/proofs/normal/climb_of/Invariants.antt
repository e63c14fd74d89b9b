use Rattle.std.proofs.Common.{◌+◌, ◌≤◌, length}
use Rattle.sugar_path.specs.Reading.{HasClimb}
use Rattle.sugar_path.proofs.Heres.{seen_route}
use Rattle.sugar_path.proofs.normal.climb_of.Given as goal

-- the climb of the parts so far
abbrev pub invariant-loop-part : goal.invariant-loop-part
invariant-loop-part l =
    (goal.iterator-loop-part).can_next l.part-iterator ×
    (goal.iterator-loop-part).is_finite l.part-iterator ×
    HasClimb (seen_route l.yielded) l.climb × (l.climb.ups + l.climb.depth ≤ length l.yielded)
