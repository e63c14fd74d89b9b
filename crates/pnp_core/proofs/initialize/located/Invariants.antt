use Rattle.std.proofs.Common.{◌≡◌, ◌++◌, [], map}
use Rattle.sugar_path.specs.Path.{Path, IsPath}
use Rattle.pnp_core.specs.Manifest.{rows}
use Rattle.pnp_core.specs.ManifestReading.{located_registry}
use Rattle.pnp_core.specs.Relocated.{all_locations, overlaid}
use Rattle.pnp_core.proofs.initialize.located.Given as goal

-- what is found and what is left are the whole, and so are the rows that are left over the trie
abbrev pub invariant-loop-name : goal.invariant-loop-name
invariant-loop-name l =
    (goal.iterator-loop-name).can_next l.name-iterator × (goal.iterator-loop-name).is_finite l.name-iterator
    × (map (λ locations. locations.items) l.found.items
    ++ all_locations l.folder (map (λ named. (named.0, named.1.entries)) l.name-iterator) ≡ all_locations l.folder
    (map (λ named. (named.0, named.1.entries)) l.registry.entries))
    × ((p : Path) → IsPath p → overlaid (rows (located_registry l.folder
    (map (λ named. (named.0, named.1.entries)) l.name-iterator))) l.trie p ≡ overlaid
    (rows (located_registry l.folder (map (λ named. (named.0, named.1.entries)) l.registry.entries))) [] p)
