use Rattle.std.proofs.Common.{◌≡◌, ◌≤◌, ◌+◌, ◌-◌, nat_eq, drop}
use Rattle.std.specs.List.{common_prefix_len}
use Rattle.sugar_path.proofs.prefix.common_prefix_len.Given as goal

-- all bytes so far are equal
abbrev pub invariant-loop-at : goal.invariant-loop-at
invariant-loop-at l = record {
  within : l.at ≤ l.end;
  equal : l.at + common_prefix_len nat_eq (drop l.at l.left) (drop l.at l.right) ≡ common_prefix_len nat_eq l.left
      l.right;
}

abbrev pub decreases-loop-at : goal.decreases-loop-at
decreases-loop-at l = l.end - l.at
