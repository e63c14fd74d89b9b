use Rattle.std.proofs.Common.{◌≡◌, ◌++◌, true}
use Rattle.std.specs.List.{list_all}
use Rattle.trail_bundle.specs.Bundle.{is_reply}
use Rattle.trail_bundle.specs.Steps.{steps_of}
use Rattle.trail_bundle.proofs.replaying.trail_of.Given as goal

-- the trail stands in front of the replies that are left
abbrev pub invariant-loop-key : goal.invariant-loop-key
invariant-loop-key l =
    (goal.iterator-loop-key).can_next l.key-iterator × (goal.iterator-loop-key).is_finite l.key-iterator
    × (l.trail ++ steps_of l.key-iterator ≡ steps_of l.replies.entries)
    × (list_all is_reply (steps_of l.key-iterator) ≡ true)
