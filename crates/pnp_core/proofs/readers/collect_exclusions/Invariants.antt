use Rattle.std.proofs.Common.{◌≡◌, map}
use Rattle.pnp_core.specs.ManifestReading.{entries_of}
use Rattle.pnp_core.proofs.readers.collect_exclusions.Given as goal

-- the lists so far are in the map
abbrev pub invariant-loop-name : goal.invariant-loop-name
invariant-loop-name l =
    (goal.iterator-loop-name).can_next l.name-iterator × (goal.iterator-loop-name).is_finite l.name-iterator
    × (map (λ named. (named.0, named.1.keys)) l.map.entries ≡ entries_of l.yielded)
