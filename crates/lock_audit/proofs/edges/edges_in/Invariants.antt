use Rattle.std.proofs.Common.{◌≡◌, ◌++◌, map}
use Rattle.std.specs.Prelude.{flat_map}
use Rattle.pnp_core.specs.Manifest.{rows}
use Rattle.lock_audit.specs.Edges.{edges_of_row}
use Rattle.lock_audit.proofs.edges.edges_in.Given as goal

-- the edges so far stand in front of those of the rows that are left
abbrev pub invariant-loop-name : goal.invariant-loop-name
invariant-loop-name l =
    (goal.iterator-loop-name).can_next l.name-iterator × (goal.iterator-loop-name).is_finite l.name-iterator
    × (l.found.items ++ flat_map edges_of_row (rows (map (λ named. (named.0, named.1.entries)) l.name-iterator))
    ≡ flat_map edges_of_row (rows (map (λ named. (named.0, named.1.entries)) l.registry.entries)))
