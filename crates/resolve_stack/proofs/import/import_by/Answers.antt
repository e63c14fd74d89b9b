use Rattle.std.proofs.Common.{Err, arith, sym, subst, rules}
use Rattle.std.proofs.lemmas.Grind.{common_steps}
use Rattle.tree_core.proofs.Asking.{settles, put_all}
use Rattle.resolve_stack.specs.Request.{request_of}
use Rattle.resolve_stack.specs.declared.verdict.Verdict.{Verdict}
use Rattle.resolve_stack.specs.Through.{IsFound}
use Rattle.resolve_stack.proofs.Faults.{is_fault, is_starved, ends_in_fault, ends_starved}
use Rattle.resolve_stack.proofs.ThroughRows.{found}
use Rattle.resolve_stack.proofs.import.import_by.Goals as goal

pub returns : goal.returns
returns g c =
    let settled = settles c.new-recorder.ensures.trail c.in_ok-decided.ensures in
    record {
      settled = rw c.into_parts-trail.ensures.trail settled;
      agree = λ t stands. c.into_parts-trail.ensures.agree t
          (rw c.in_ok-decided.ensures.stands (rw c.new-recorder.ensures.at stands));
      found = λ t agrees.
          let P : Verdict → Type 0 = IsFound t c.args.known.now.project.now (request_of c.args.request.now) in
          subst P (sym (settled.verdict t (rw c.into_parts-trail.ensures.trail at agrees)))
          (found t c.args.known.now.project.now (request_of c.args.request.now));
      stands = grind (arith, common_steps);
      cause = grind (arith, common_steps);
      put = rw (← c.new-recorder.ensures.at, c.into_parts-trail.ensures.trail)
          (grind (arith, common_steps, put_all c.new-recorder.ensures.trail c.in_ok-decided.ensures));
      fails = λ is. cc;
      starves = λ is. cc;
    }

pub returns-in_err-decided : goal.returns-in_err-decided
returns-in_err-decided g c = record {
  settled = search rules;
  agree = search rules;
  found = search rules;
  stands = grind (arith, common_steps);
  cause = grind (arith, common_steps);
  put = search rules;
  fails = λ is.
      rw (← c.new-recorder.ensures.at)
      (ends_in_fault (Err c.in_err-decided.field-0.0) c.new-recorder.ensures.trail
      (λ t stands. c.decide_with-decided.new.tree.agrees t (rw c.in_err-decided.ensures.stands stands))
      c.in_err-decided.ensures (is_fault _ _ c.from_residual.ensures.1 is) (grind (arith, common_steps))
      (grind (arith, common_steps)));
  starves = λ is.
      rw (← c.new-recorder.ensures.at)
      (ends_starved (Err c.in_err-decided.field-0.0) c.new-recorder.ensures.trail
      (λ t stands. c.decide_with-decided.new.tree.agrees t (rw c.in_err-decided.ensures.stands stands))
      c.in_err-decided.ensures (is_starved _ _ c.from_residual.ensures.1 is) (grind (arith, common_steps)));
}
