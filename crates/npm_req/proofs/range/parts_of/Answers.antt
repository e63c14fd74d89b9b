use Rattle.std.proofs.Common.{◌≡◌, ◌<◌, true, false, length, arith, rules}
use Rattle.npm_req.specs.Front.{after_all, is_space}
use Rattle.npm_req.specs.Range.{parts_of}
use Rattle.npm_req.specs.Word.{ends_alternative}
use Rattle.std.proofs.lemmas.Result.{err_from_is_err_and}
use Rattle.npm_req.proofs.Endings.{refused_in_end, end_of_all, end_of_end}
use Rattle.npm_req.proofs.Ranges.{end_of_parts, next_of_parts}
use Rattle.npm_req.proofs.range.parts_of.Goals as goal

pub parts-preserved : goal.parts-preserved
parts-preserved c =
    let goes_on : ends_alternative c.parts.rest.now ≡ false = search rules in
    let whole = parts_of (length c.args.text.now) c.args.text.now in
    let shorter = rw c.after_spaces-rest.ensures.value at c.after_spaces-rest.ensures.shorter in
    let left : length (after_all is_space c.in_ok-comparators.behind.now) < length c.parts.rest.now =
    omega (arith, c.in_ok-comparators.ensures.shorter) in (
      search rules,
      omega (arith, c.in_ok-comparators.ensures.shorter, c.after_spaces-rest.ensures.shorter),
      rw c.after_spaces-rest.ensures.value (end_of_end (after_all is_space c.in_ok-comparators.behind.now)
          c.parts.rest.now c.args.text.now (end_of_end (after_all is_space c.in_ok-comparators.behind.now)
          c.in_ok-comparators.behind.now c.parts.rest.now (end_of_all is_space c.in_ok-comparators.behind.now)
          c.in_ok-comparators.ensures.end) c.parts.invariant.2),
      rw (c.in_ok-append.ensures.items, c.after_spaces-rest.ensures.value)
          (next_of_parts c.parts.made.items c.in_ok-comparators.comparators.items c.parts.rest.now
          c.in_ok-comparators.behind.now whole goes_on c.in_ok-comparators.ensures.read left c.parts.invariant.3),
    )

pub returns-clause-read : goal.returns-clause-read
returns-clause-read c =
    let ends : ends_alternative c.parts.rest.now ≡ true = search rules in
    end_of_parts c.parts.made.items c.parts.rest.now (parts_of (length c.args.text.now) c.args.text.now) ends
    c.parts.invariant.3

pub returns-in_err-comparators-clause-inside : goal.returns-in_err-comparators-clause-inside
returns-in_err-comparators-clause-inside c =
    let p = err_from_is_err_and c.from_residual.result c.from_residual.ensures.1 in rw (p.1, p.2)
    (refused_in_end c.parts.rest.now c.args.text.now c.in_err-comparators.field-0.0 c.parts.invariant.2
    c.in_err-comparators.ensures.inside)
