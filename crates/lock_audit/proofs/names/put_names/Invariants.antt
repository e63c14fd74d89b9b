use Rattle.std.proofs.Common.{map}
use Rattle.pnp_core.specs.Manifest.{rows_under}
use Rattle.lock_audit.specs.declared.names.Names.{Names}
use Rattle.lock_audit.specs.Names.{Adds}
use Rattle.lock_audit.proofs.names.put_names.Given as goal

-- with the names of the rows that are left, they have those of all
abbrev pub invariant-loop-reference : goal.invariant-loop-reference
invariant-loop-reference l =
    (goal.iterator-loop-reference).can_next l.reference-iterator
    × (goal.iterator-loop-reference).is_finite l.reference-iterator
    × ((whole : Names) → Adds l.names whole (map (λ row. row.0) (rows_under (l.name, l.reference-iterator)))
    → Adds l.fn.names whole (map (λ row. row.0) (rows_under (l.name, l.references.entries))))
