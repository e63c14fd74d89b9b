use Rattle.std.proofs.Common.{sym, ap, ◌∙◌, arith}
use Rattle.es_pattern.specs.declared.step.Direction.TheVariants.{Backward}
use Rattle.es_pattern.specs.Compiled.{with_code, top_code}
use Rattle.es_pattern.proofs.Compiling.{codes_more, stands_there, parting_more, all_parts}
use Rattle.es_pattern.proofs.compile.lookaheads_of.Goals as goal

pub loop-number-preserved : goal.loop-number-preserved
loop-number-preserved c =
    let piece = c.index-pieces-number.result in
    let stands =
    stands_there c.args.pieces.now c.loop-number.number piece c.loop-number-test.true c.index-pieces-number.is in (
      c.in_ok-part.ensures.taken ∙ ap (with_code Backward piece c.loop-number.number) c.loop-number.invariant.0
          ∙ sym (codes_more Backward c.args.pieces.now c.loop-number.number piece stands),
      parting_more c.args.pieces.now c.loop-number.number c.loop-number.lookaheads.items c.push.new.self.items piece
          c.in_ok-part.part c.loop-number.invariant.1 stands
          (λ negated is. c.in_ok-part.ensures.part negated is ∙ ap top_code c.loop-number.invariant.0)
          c.in_ok-push.ensures.items,
    )

pub returns : goal.returns
returns c = all_parts c.args.pieces.now c.loop-number.number c.loop-number.lookaheads.items (omega arith)
    c.loop-number.invariant.1
