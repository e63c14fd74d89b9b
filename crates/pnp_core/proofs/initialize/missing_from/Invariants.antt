use Rattle.std.proofs.Common.{◌≡◌, ◌++◌}
use Rattle.std.specs.Prelude.{filter, is_none}
use Rattle.pnp_core.specs.Manifest.{at}
use Rattle.pnp_core.proofs.initialize.missing_from.Given as goal

-- what is found and what is left are the whole
abbrev pub invariant-loop-name : goal.invariant-loop-name
invariant-loop-name l =
    (goal.iterator-loop-name).can_next l.name-iterator × (goal.iterator-loop-name).is_finite l.name-iterator
    × (l.missing.items ++ filter (λ bound. is_none (at bound.0 l.pool.entries)) l.name-iterator ≡ filter
    (λ bound. is_none (at bound.0 l.pool.entries)) l.own.entries)
