use Rattle.std.proofs.Common.{sym, ◌∙◌}
use Rattle.std.proofs.lemmas.List.{take_rest}
use Rattle.es_imports.specs.Parts.{part_len}
use Rattle.es_imports.proofs.Running.{running_end, running_next}
use Rattle.es_imports.proofs.run.run_len.Goals as goal

pub returns-then-len-eq0-clause-value : goal.returns-then-len-eq0-clause-value
returns-then-len-eq0-clause-value c =
    let part = rw (take_rest c.args.text.now c.loop-part.at) at c.part_len-len.ensures in
    running_end (part_len c.args.part) c.args.text.now c.loop-part.at c.loop-part.invariant (sym part.value
    ∙ c.if-len-eq0.true)

pub loop-part-preserved : goal.loop-part-preserved
loop-part-preserved c =
    let part = rw (take_rest c.args.text.now c.loop-part.at) at c.part_len-len.ensures in
    running_next (part_len c.args.part) c.args.text.now c.loop-part.at c.part_len-len.result
    c.loop-part.invariant part.value c.if-len-eq0.false part.within
