use Rattle.std.proofs.Common.{sym, ◌∙◌}
use Rattle.std.proofs.lemmas.List.{take_rest}
use Rattle.es_imports.specs.Literals.{pattern_part}
use Rattle.es_imports.proofs.Running.{running_end, running_next}
use Rattle.es_imports.proofs.literal.pattern_body_len.Goals as goal

pub returns-then-len-eq0-clause-value : goal.returns-then-len-eq0-clause-value
returns-then-len-eq0-clause-value c =
    let part = rw (take_rest c.args.text.now c.loop-at.at) at c.pattern_part-len.ensures in
    running_end pattern_part c.args.text.now c.loop-at.at c.loop-at.invariant (sym part.value ∙ c.if-len-eq0.true)

pub loop-at-preserved : goal.loop-at-preserved
loop-at-preserved c =
    let part = rw (take_rest c.args.text.now c.loop-at.at) at c.pattern_part-len.ensures in
    running_next pattern_part c.args.text.now c.loop-at.at c.pattern_part-len.result c.loop-at.invariant
    part.value c.if-len-eq0.false part.within
