use Rattle.std.proofs.Common.{◌≡◌}
use Rattle.sugar_path.specs.Path.{Path, IsPath}
use Rattle.pnp_core.specs.Manifest.{rows_under}
use Rattle.pnp_core.specs.Relocated.{overlaid}
use Rattle.pnp_core.proofs.copies.put_rows.Given as goal

-- the rows that are left over the trie are all of the name's
abbrev pub invariant-loop-reference : goal.invariant-loop-reference
invariant-loop-reference l =
    (goal.iterator-loop-reference).can_next l.reference-iterator
    × (goal.iterator-loop-reference).is_finite l.reference-iterator
    × ((p : Path) → IsPath p → overlaid (rows_under (l.name, l.reference-iterator)) l.trie p ≡ overlaid
    (rows_under (l.name, l.references.entries)) l.fn.trie p)
