use Rattle.std.proofs.Common.{◌≡◌, true, ap, sym, ◌∙◌, get_or, drop, drop-cons, suc, arith, rules}
use Rattle.std.specs.Char.{is_ascii_digit}
use Rattle.npm_req.proofs.Components.{counted_behind, counted_behind-digit, counted_behind-large}
use Rattle.npm_req.proofs.partial.counted.Goals as goal

pub returns-then-value-gt-LARGEST_NUMBER-clause-read : goal.returns-then-value-gt-LARGEST_NUMBER-clause-read
returns-then-value-gt-LARGEST_NUMBER-clause-read c =
    let ds = c.args.digits.now in
    let i = c.loop-digit.digit-index in
    let digit : is_ascii_digit (get_or ds i 0) ≡ true = search rules in
    sym (sym c.loop-digit.invariant.same ∙ ap (counted_behind c.loop-digit.value)
    (drop-cons ds i 0 c.loop-digit-test.true)
    ∙ counted_behind-digit c.loop-digit.value (get_or ds i 0) (drop (suc i) ds) digit
    ∙ counted_behind-large _ (drop (suc i) ds) (omega arith))
