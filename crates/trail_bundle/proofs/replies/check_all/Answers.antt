use Rattle.std.proofs.Common.{[], ap, sym, ◌∙◌}
use Rattle.std.specs.Slice.Iter.{iter_rest}
use Rattle.trail_bundle.specs.Steps.{steps_of}
use Rattle.trail_bundle.proofs.Keeping.{agreed_more, all_agree, refused_so}
use Rattle.trail_bundle.proofs.replies.check_all.Goals as goal

pub loop-step-init : goal.loop-step-init
loop-step-init c = record {
  before = [];
  in_order =
      sym (ap iter_rest c.into_iter-step-iterator.ensures.into_iter_gives ∙ c.iter-step-items.ensures.rest);
  agree = tt;
}

pub loop-step-preserved : goal.loop-step-preserved
loop-step-preserved c =
    agreed_more (steps_of c.args.replies.now.entries) c.args.trail.now _ (iter_rest c.next.new.self) c.in-Some.step.now
    c.loop-step.invariant c.in-Some.ensures.steps c.in_ok-check.ensures.ok

pub returns-in_err-check-clause-refused : goal.returns-in_err-check-clause-refused
returns-in_err-check-clause-refused c =
    refused_so (steps_of c.args.replies.now.entries) c.args.trail.now _ (iter_rest c.next.new.self) c.in-Some.step.now _
    _
    c.from_residual.ensures.1 c.loop-step.invariant c.in-Some.ensures.steps c.in_err-check.ensures.refused

pub returns-clause-ok : goal.returns-clause-ok
returns-clause-ok c =
    all_agree (steps_of c.args.replies.now.entries) c.args.trail.now _ c.loop-step.invariant c.in-None.ensures.steps.0
