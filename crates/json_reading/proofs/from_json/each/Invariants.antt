use Rattle.std.proofs.Common.{◌≡◌, drop}
use Rattle.std.specs.Prelude.{map}
use Rattle.serde_json.specs.View.{items_of}
use Rattle.json_reading.specs.Reading.{items_by}
use Rattle.json_reading.proofs.Readings.{read_on}
use Rattle.json_reading.proofs.from_json.each.Given as goal

-- what is read and what is left are the whole
abbrev pub invariant-loop-item : goal.invariant-loop-item
invariant-loop-item g l =
    read_on g.T.FromJson.reads g.J.JsonValue.stands_for l.read.items (drop l.item-index l.items) ≡ items_by
    g.T.FromJson.reads (items_of (map g.J.JsonValue.stands_for l.items))
