use Rattle.std.proofs.Common.{◌≡◌, []}
use Rattle.indexmap.specs.IndexSet as set
use Rattle.pnp_core.proofs.entries.distinct.Given as goal

-- the members so far are in the set
abbrev pub invariant-loop-member : goal.invariant-loop-member
invariant-loop-member g l =
    (goal.iterator-loop-member g).can_next l.member-iterator × (goal.iterator-loop-member g).is_finite l.member-iterator
    × (l.set.keys ≡ set.insert_all g.T.PartialEq.eq [] l.yielded)
