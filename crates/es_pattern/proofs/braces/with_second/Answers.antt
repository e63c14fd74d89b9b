use Rattle.es_pattern.proofs.Digits.{second_bounded}
use Rattle.es_pattern.proofs.braces.with_second.Goals as goal

pub returns : goal.returns
returns c = rw c.then_some.ensures (second_bounded c.is_at_most.result c.in_ok-count.count c.in_ok-last.last
    c.args.least.now c.args.most.now c.in_ok-count.ensures c.in_ok-last.ensures c.is_at_most.ensures)
