use Rattle.std.proofs.Common.{◌≡◌, ◌<◌, Some, None, length, arith, rules}
use Rattle.npm_req.specs.Range.{range}
use Rattle.npm_req.specs.Word.{after_bars}
use Rattle.std.proofs.lemmas.Result.{err_from_is_err_and}
use Rattle.npm_req.proofs.Endings.{refused_in_end, end_of_bars, end_of_end}
use Rattle.npm_req.proofs.Ranges.{end_of_range, next_of_range}
use Rattle.npm_req.proofs.range.range.Goals as goal

pub alternatives-preserved : goal.alternatives-preserved
alternatives-preserved c =
    let bars : after_bars c.in_ok-comparators.behind.now ≡ Some c.in-Some.next.now = search rules in
    let left : length c.in-Some.next.now < length c.alternatives.rest.now =
    omega (arith, c.in_ok-comparators.ensures.shorter, c.in-Some.ensures.shorter) in (
      search rules,
      omega (arith, c.in_ok-comparators.ensures.shorter, c.in-Some.ensures.shorter),
      end_of_end c.in-Some.next.now c.alternatives.rest.now c.args.text.now
          (end_of_end c.in-Some.next.now c.in_ok-comparators.behind.now c.alternatives.rest.now
          (end_of_bars c.in_ok-comparators.behind.now c.in-Some.next.now bars) c.in_ok-comparators.ensures.end)
          c.alternatives.invariant.2,
      rw (c.in_ok-push.ensures.items, c.from.ensures)
          (next_of_range c.alternatives.made.items c.in_ok-comparators.comparators.items c.alternatives.rest.now
          c.in_ok-comparators.behind.now c.in-Some.next.now (range c.args.text.now) c.in_ok-comparators.ensures.read
          bars left c.alternatives.invariant.3),
    )

pub returns-in_err-comparators-clause-inside : goal.returns-in_err-comparators-clause-inside
returns-in_err-comparators-clause-inside c =
    let p = err_from_is_err_and c.from_residual.result c.from_residual.ensures.1 in rw (p.1, p.2)
    (refused_in_end c.alternatives.rest.now c.args.text.now c.in_err-comparators.field-0.0 c.alternatives.invariant.2
    c.in_err-comparators.ensures.inside)

pub returns-in-None-clause-read : goal.returns-in-None-clause-read
returns-in-None-clause-read c =
    let none : after_bars c.in_ok-comparators.behind.now ≡ None = search rules in
    rw (c.from-in-None.ensures, c.in_ok-push.ensures.items, c.from.ensures)
    (end_of_range c.alternatives.made.items c.in_ok-comparators.comparators.items c.alternatives.rest.now
    c.in_ok-comparators.behind.now (range c.args.text.now) c.in_ok-comparators.ensures.read none
    c.alternatives.invariant.3)
