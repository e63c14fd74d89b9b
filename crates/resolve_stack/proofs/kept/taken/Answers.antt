use Rattle.std.proofs.Common.{◌<◌, sym, ◌∙◌, length, arith}
use Rattle.std.proofs.lemmas.Grind.{common_steps}
use Rattle.resolve_stack.proofs.ManifestRows.{is_reading, same_item}
use Rattle.resolve_stack.proofs.kept.taken.Goals as goal

pub returns-then-is_reading_of : goal.returns-then-is_reading_of
returns-then-is_reading_of c =
    let within : c.loop-i.i < length c.loop-i.latest.items = grind (arith, common_steps) in
    let same = same_item c.loop-i.latest.items c.loop-i.i c.remove.result c.index.result.now c.remove.ensures.value
    c.index.ensures within in
    rw same (is_reading c.index.result.now _ _ (sym c.is_reading_of.ensures ∙ c.if-is_reading_of.true))
