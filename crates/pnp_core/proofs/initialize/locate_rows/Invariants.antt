use Rattle.std.proofs.Common.{◌≡◌, ◌++◌}
use Rattle.sugar_path.specs.Path.{Path, IsPath}
use Rattle.pnp_core.specs.Manifest.{rows_under}
use Rattle.pnp_core.specs.ManifestReading.{located_rows}
use Rattle.pnp_core.specs.Relocated.{locations_of, overlaid}
use Rattle.pnp_core.proofs.initialize.locate_rows.Given as goal

-- what is found and what is left are the whole, and so are the rows that are left over the trie
abbrev pub invariant-loop-reference : goal.invariant-loop-reference
invariant-loop-reference l =
    (goal.iterator-loop-reference).can_next l.reference-iterator
    × (goal.iterator-loop-reference).is_finite l.reference-iterator
    × (l.found.items ++ locations_of l.folder l.reference-iterator ≡ locations_of l.folder l.references.entries)
    × ((p : Path) → IsPath p → overlaid (rows_under (l.name, located_rows l.folder l.reference-iterator)) l.trie p ≡
    overlaid (rows_under (l.name, located_rows l.folder l.references.entries)) l.fn.trie p)
