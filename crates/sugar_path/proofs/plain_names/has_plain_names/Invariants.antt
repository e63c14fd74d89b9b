use Rattle.std.proofs.Common.{◌-◌}
use Rattle.sugar_path.proofs.PlainNames.{StartsBefore}
use Rattle.sugar_path.proofs.plain_names.has_plain_names.Given as goal

-- a name begins behind each slash so far
abbrev pub invariant-loop-at : goal.invariant-loop-at
invariant-loop-at l = StartsBefore l.at l.path

abbrev pub decreases-loop-at : goal.decreases-loop-at
decreases-loop-at l = l.last - l.at
