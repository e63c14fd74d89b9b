use Rattle.std.proofs.Common.{◌≡◌, ◌<◌, drop, arith}
use Rattle.std.proofs.lemmas.List.{take_rest, length-drop}
use Rattle.es_imports.specs.Escapes.{part_at}
use Rattle.es_imports.proofs.Unitings.{uniting_end, uniting_next}
use Rattle.es_imports.proofs.value.units_of.Goals as goal

pub loop-at-preserved : goal.loop-at-preserved
loop-at-preserved c =
    let part = rw (take_rest c.args.text.now c.loop-at.at) at c.part_at-part.ensures in
    let rest = length-drop c.loop-at.at c.args.text.now in
    let same : c.part_at-part.result ≡ part_at (drop c.loop-at.at c.args.text.now) = part.value in
    let some : 0 < c.part_at-part.result.len = part.some (omega arith) in
    uniting_next c.args.text.now c.loop-at.at c.loop-at.units.items c.push_part.new.units.items
    c.part_at-part.result c.loop-at.invariant c.loop-at-test.true same some part.within c.in_ok-push_part.ensures

pub returns : goal.returns
returns c = uniting_end c.args.text.now c.loop-at.at c.loop-at.units.items c.loop-at.invariant c.loop-at-test.false
