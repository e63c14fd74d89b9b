use Rattle.std.proofs.Common.{refl, arith}
use Rattle.es_pattern.proofs.Digits.{decided, same_digits}
use Rattle.es_pattern.proofs.braces.is_at_most.Goals as goal

pub returns-then-a-b : goal.returns-then-a-b
returns-then-a-b c =
    decided c.max-width.result c.loop-place.place c.args.least.now c.args.most.now c.digit_at-a.result
    c.digit_at-b.result (omega (arith, c.max-width.ensures)) (omega (arith, c.max-width.ensures))
    c.loop-place.invariant c.loop-place-test.true
    c.digit_at-a.ensures c.digit_at-b.ensures c.if-a-b.true

pub returns : goal.returns
returns c = λ n m hn hm.
    let e = same_digits c.max-width.result c.loop-place.place c.args.least.now c.args.most.now
    (omega (arith, c.max-width.ensures)) (omega (arith, c.max-width.ensures)) c.loop-place.invariant (omega arith) n
    m hn hm in
    (λ t. omega (arith, e), λ le. refl)
