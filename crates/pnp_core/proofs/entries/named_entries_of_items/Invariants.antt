use Rattle.std.proofs.Common.{◌≡◌, drop, map}
use Rattle.std.specs.Prelude.{option_map}
use Rattle.serde_json.specs.Find.{as_str}
use Rattle.serde_json.specs.View.{items_of}
use Rattle.json_reading.specs.Reading.{items_by, nullable_by, pair_by}
use Rattle.pnp_core.specs.ManifestReading.{entries_of, named}
use Rattle.pnp_core.proofs.PairReadings.{read_named}
use Rattle.pnp_core.proofs.entries.named_entries_of_items.Given as goal

-- what is left to read, put into what is read, is the whole
abbrev pub invariant-loop-item : goal.invariant-loop-item
invariant-loop-item g l =
    read_named (pair_by (nullable_by as_str) g.V.FromJson.reads) g.J.JsonValue.stands_for l.map.entries
    (drop l.item-index l.items)
    ≡ option_map (λ pairs. entries_of (map named pairs)) (items_by (pair_by (nullable_by as_str) g.V.FromJson.reads)
    (items_of (map g.J.JsonValue.stands_for l.items)))
