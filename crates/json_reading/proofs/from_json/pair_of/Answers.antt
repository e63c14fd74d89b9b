use Rattle.json_reading.proofs.Readings.{two_by-other}
use Rattle.json_reading.proofs.from_json.pair_of.Goals as goal

pub returns-then-items-ne2 : goal.returns-then-items-ne2
returns-then-items-ne2 g c =
    two_by-other g.A.FromJson.reads g.B.FromJson.reads g.J.JsonValue.stands_for c.args.items.now c.if-items-ne2.true
