use Rattle.std.proofs.Common.{arith}
use Rattle.sugar_path.proofs.Fronts.{rest-differs, rest-follows}
use Rattle.sugar_path.proofs.borrowed.rest_behind.Goals as goal
use Rattle.sugar_path.proofs.borrowed.rest_behind.Goals.{
  else-front-text-via-then-front-text+else-text-front-ne47,
  else-front-text-via-else-front-text,
}

pub returns-then-common_prefix_len-front : goal.returns-then-common_prefix_len-front
returns-then-common_prefix_len-front c = rest-differs c.args.front.now c.args.text.now c.common_prefix_len.result
    c.common_prefix_len.ensures c.if-common_prefix_len-front.true

pub returns : goal.returns
returns c =
    rest-follows c.args.front.now c.args.text.now c.common_prefix_len.result c.min.result c.common_prefix_len.ensures
    c.if-common_prefix_len-front.false
    (λ lt. elim c.else-front-text.branch [
      | else-front-text-via-then-front-text+else-text-front-ne47 w ↦ w.if-text-front-ne47.false
      | else-front-text-via-else-front-text w ↦ absurd (omega (arith, lt, w.if-front-text.false))
    ])
    c.min.ensures
