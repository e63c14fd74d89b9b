use Rattle.std.proofs.Common.{◌≡◌, [], ap, sym, ◌∙◌}
use Rattle.std.specs.Slice.Iter.{iter_rest}
use Rattle.tree_core.specs.declared.question.Question.{Question}
use Rattle.trail_bundle.specs.Keeping.{kept_without, reply_at}
use Rattle.trail_bundle.proofs.Keeping.{added_more, all_added, on_error, or_nothing}
use Rattle.trail_bundle.proofs.replies.put_all.Goals as goal

pub loop-step-init : goal.loop-step-init
loop-step-init c = (
  record {
    before = [];
    in_order = sym (ap iter_rest c.into_iter-step-iterator.ensures.into_iter_gives
        ∙ c.iter-step-items.ensures.rest);
    has = λ q. sym (or_nothing (reply_at c.args.replies.now q));
  },
  λ q. ap (λ f. kept_without f c.args.replies.now q) c.new-fresh.ensures.items,
  λ are. are,
)

pub loop-step-preserved : goal.loop-step-preserved
loop-step-preserved c = (
  added_more (reply_at c.args.replies.now) (reply_at c.loop-step.replies) (reply_at c.put_or_undo.new.replies)
      c.args.trail.now _ (iter_rest c.next.new.self) c.in-Some.step.now
      c.loop-step.invariant.0 c.in-Some.ensures.steps c.in_ok-put_or_undo.ensures.ok,
  λ q. c.in_ok-put_or_undo.ensures.back q ∙ c.loop-step.invariant.1 q,
  λ are. c.in_ok-put_or_undo.ensures.are (c.loop-step.invariant.2 are),
)

pub returns-in_err-put_or_undo-clause-err : goal.returns-in_err-put_or_undo-clause-err
returns-in_err-put_or_undo-clause-err c =
    on_error _ ((q : Question) → reply_at c.put_or_undo.new.replies q ≡ reply_at c.args.replies.now q)
    (λ q. c.in_err-put_or_undo.ensures.undone q ∙ c.loop-step.invariant.1 q)

pub returns-clause-ok : goal.returns-clause-ok
returns-clause-ok c =
    all_added (reply_at c.args.replies.now) (reply_at c.loop-step.replies) c.args.trail.now _ c.loop-step.invariant.0
    c.in-None.ensures.steps.0
