use Rattle.std.proofs.Common.{◌≡◌, ◌++◌}
use Rattle.pnp_core.proofs.copies.copied_set.Given as goal

-- what is copied and what is left are the whole
abbrev pub invariant-loop-member : goal.invariant-loop-member
invariant-loop-member g l =
    (goal.iterator-loop-member g).can_next l.member-iterator × (goal.iterator-loop-member g).is_finite l.member-iterator
    × (l.copy.keys ++ l.member-iterator ≡ l.members.keys)
