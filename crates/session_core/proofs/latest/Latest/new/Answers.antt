use Rattle.std.proofs.Common.{arith}
use Rattle.std.specs.List.{IsDistinct}
use Rattle.session_core.proofs.latest.Latest.new.Goals as goal

pub invariant_of-result : goal.invariant_of-result
unfolding IsDistinct
invariant_of-result c =
    rw c.in_ok-entries.ensures (record { apart = tt; numbers = tt; below = tt; fits = omega arith }, tt)
