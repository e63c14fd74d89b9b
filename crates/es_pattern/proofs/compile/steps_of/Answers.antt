use Rattle.std.proofs.Common.{sym, ap, ◌∙◌}
use Rattle.es_pattern.specs.declared.step.Direction.TheVariants.{Forward}
use Rattle.es_pattern.specs.Compiled.{with_code}
use Rattle.es_pattern.proofs.Compiling.{codes_more, stands_there}
use Rattle.es_pattern.proofs.compile.steps_of.Goals as goal

pub loop-number-preserved : goal.loop-number-preserved
loop-number-preserved c =
    let piece = c.index-pieces-number.result in
    let stands =
    stands_there c.args.pieces.now c.loop-number.number piece c.loop-number-test.true c.index-pieces-number.is in
    c.in_ok-_part.ensures.taken ∙ ap (with_code Forward piece c.loop-number.number) c.loop-number.invariant
    ∙ sym (codes_more Forward c.args.pieces.now c.loop-number.number piece stands)
