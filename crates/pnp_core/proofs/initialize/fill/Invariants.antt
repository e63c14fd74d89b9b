use Rattle.std.proofs.Common.{◌≡◌, ◌≤◌, ◌+◌, length, bytes_eq}
use Rattle.indexmap.specs.IndexMap.{insert_all, spare}
use Rattle.pnp_core.proofs.initialize.fill.Given as goal

-- the bindings so far are in the pool, and there is room for the rest
abbrev pub invariant-loop-name : goal.invariant-loop-name
invariant-loop-name l =
    (goal.iterator-loop-name).can_next l.name-iterator × (goal.iterator-loop-name).is_finite l.name-iterator
    × (l.pool.entries ≡ insert_all bytes_eq l.initial.pool.entries l.yielded)
    × (length l.fn.missing.items ≤ spare l.pool + length l.yielded)
