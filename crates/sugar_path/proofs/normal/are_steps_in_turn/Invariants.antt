use Rattle.std.proofs.Common.{◌≡◌, length, drop}
use Rattle.sugar_path.specs.Path.{parts}
use Rattle.sugar_path.specs.Reading.{are_steps}
use Rattle.sugar_path.proofs.normal.are_steps_in_turn.Given as goal

-- what is left decides
abbrev pub invariant-loop-part : goal.invariant-loop-part
invariant-loop-part l =
    (goal.iterator-loop-part).can_next l.part-iterator ×
    (goal.iterator-loop-part).is_finite l.part-iterator ×
    (are_steps l.up (drop (length l.yielded) (parts l.path)) ≡ are_steps l.may_go_up (parts l.path))
