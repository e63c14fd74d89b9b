use Rattle.std.proofs.Common.{◌≡◌, ◌++◌}
use Rattle.pnp_core.specs.Copying.{told_by}
use Rattle.pnp_core.proofs.copies.copied_map.Given as goal

-- what is copied and what is left are told as the whole
abbrev pub invariant-loop-name : goal.invariant-loop-name
invariant-loop-name g l =
    (goal.iterator-loop-name g).can_next l.name-iterator × (goal.iterator-loop-name g).is_finite l.name-iterator
    × (told_by g.V.Bound.told l.copy.entries ++ told_by g.V.Bound.told l.name-iterator ≡ told_by g.V.Bound.told
    l.values.entries)
