use Rattle.std.proofs.Common.{◌≡◌, ◌++◌}
use Rattle.std.specs.Prelude.{flat_map}
use Rattle.pnp_core.specs.Manifest.{rows_under}
use Rattle.lock_audit.specs.Edges.{edges_of_row}
use Rattle.lock_audit.proofs.edges.put_rows.Given as goal

-- the edges so far stand in front of those of the rows that are left
abbrev pub invariant-loop-reference : goal.invariant-loop-reference
invariant-loop-reference l =
    (goal.iterator-loop-reference).can_next l.reference-iterator
    × (goal.iterator-loop-reference).is_finite l.reference-iterator
    × (l.found.items ++ flat_map edges_of_row (rows_under (l.name, l.reference-iterator))
    ≡ l.fn.found.items ++ flat_map edges_of_row (rows_under (l.name, l.references.entries)))
