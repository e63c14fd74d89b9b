use Rattle.sugar_path.proofs.NameWays.{HoldsNames}
use Rattle.sugar_path.proofs.ways.names_of.Given as goal

-- the names that the parts so far lead down to
abbrev pub invariant-loop-part : goal.invariant-loop-part
invariant-loop-part l =
    (goal.iterator-loop-part).can_next l.part-iterator ×
    (goal.iterator-loop-part).is_finite l.part-iterator ×
    HoldsNames l.names.items l.yielded
