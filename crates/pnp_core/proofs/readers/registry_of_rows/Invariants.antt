use Rattle.std.proofs.Common.{◌≡◌, map}
use Rattle.std.specs.Prelude.{option_map}
use Rattle.std.specs.Vec.Iter.{into_iter_items}
use Rattle.json.specs.Value.{value_view}
use Rattle.serde_json.specs.Find.{as_str}
use Rattle.serde_json.specs.View.{items_of}
use Rattle.json_reading.specs.Borrowed.{data_of}
use Rattle.json_reading.specs.Reading.{items_by, nullable_by, pair_by}
use Rattle.pnp_core.specs.ManifestReading.{entries_of, named, references_in}
use Rattle.pnp_core.proofs.PairReadings.{read_named}
use Rattle.pnp_core.proofs.readers.registry_of_rows.Given as goal

-- what is left to read, put into what is read, is the whole
abbrev pub invariant-loop-row : goal.invariant-loop-row
invariant-loop-row l =
    (goal.iterator-loop-row).can_next l.row-iterator × (goal.iterator-loop-row).is_finite l.row-iterator
    × (read_named (pair_by (nullable_by as_str) references_in) (λ v. data_of (value_view v))
    (map (λ named. (named.0, named.1.entries)) l.map.entries) (into_iter_items l.row-iterator)
    ≡ option_map (λ pairs. entries_of (map named pairs)) (items_by (pair_by (nullable_by as_str) references_in)
    (items_of (map (λ v. data_of (value_view v)) l.fn.rows.items))))
