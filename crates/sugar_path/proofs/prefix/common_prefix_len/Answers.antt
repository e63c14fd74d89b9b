use Rattle.std.proofs.Common.{◌+◌, arith, ◌∙◌, ap, sym}
use Rattle.sugar_path.proofs.Lanes.{shared, block-at, block-next, rest-le}
use Rattle.sugar_path.proofs.prefix.common_prefix_len.Goals as goal

pub returns-then-equal-lt32 : goal.returns-then-equal-lt32
returns-then-equal-lt32 c =
    let block = block-at c.loop-at.at _ c.args.left.now c.args.right.now c.equal_lanes-equal.result c.loop-at-test.true
    c.min-end.ensures c.equal_lanes-equal.ensures in
    ap (λ k. c.loop-at.at + k) (sym (block.1 c.if-equal-lt32.true)) ∙ c.loop-at.invariant.equal

pub loop-at-preserved : goal.loop-at-preserved
loop-at-preserved c =
    let block = block-at c.loop-at.at _ c.args.left.now c.args.right.now c.equal_lanes-equal.result c.loop-at-test.true
    c.min-end.ensures c.equal_lanes-equal.ensures in
    record {
      within = omega (arith, c.loop-at-test.true);
      equal = block-next c.loop-at.at (shared c.args.left.now c.args.right.now) c.args.left.now c.args.right.now
          c.loop-at.invariant.equal (block.2 c.if-equal-lt32.false);
    }

pub overflow_add-result-2 : goal.overflow_add-result-2
overflow_add-result-2 c =
    let le = rest-le c.loop-at.at c.min-end.result c.equal_bytes.result c.args.left.now c.args.right.now
    c.min-end.ensures c.loop-at.invariant.equal c.equal_bytes.ensures in
    omega (arith, le, c.min-end.type_inv)
