use Rattle.std.proofs.Common.{Some, refl, sym, ap, ◌∙◌}
use Rattle.tree_core.specs.Question.{reply_in}
use Rattle.trail_bundle.specs.Steps.{steps_of}
use Rattle.trail_bundle.proofs.Keeping.{agree_absent, agree_same, kept_at}
use Rattle.trail_bundle.proofs.replies.check.Goals as goal

pub returns-in_default-get-clause-ok : goal.returns-in_default-get-clause-ok
returns-in_default-get-clause-ok c =
    agree_absent (steps_of c.args.replies.now.entries) c.args.trail.now c.args.question.now
    (sym (kept_at c.args.replies.now c.in_ok-key.key c.args.question.now _ c.in_default-get.ensures.value
    c.in_ok-key.ensures))

pub returns-then-is_same-clause-ok : goal.returns-then-is_same-clause-ok
returns-then-is_same-clause-ok c =
    agree_same (steps_of c.args.replies.now.entries) c.args.trail.now c.args.question.now c.in-Some-get.kept.now
    c.in-Some.given.now
    (kept_at c.args.replies.now c.in_ok-key.key c.args.question.now _ c.in-Some-get.ensures.value c.in_ok-key.ensures)
    c.in-Some.ensures.reply (rw c.if-is_same.true at c.is_same.ensures)

pub returns-clause-refused : goal.returns-clause-refused
returns-clause-refused c =
    let kept =
    kept_at c.args.replies.now c.in_ok-key.key c.in_ok-key.key.question _ c.in-Some-get.ensures.value refl in (
      c.in_ok-key.ensures,
      record {
        of_kept = sym kept ∙ ap Some (sym c.in_ok-kept.ensures);
        of_trail = ap (reply_in c.args.trail.now) c.in_ok-key.ensures ∙ sym c.in-Some.ensures.reply
            ∙ ap Some (sym c.in_ok-given.ensures);
        differ = λ same. (rw c.if-is_same.false at c.is_same.ensures)
            (sym c.in_ok-kept.ensures ∙ same ∙ c.in_ok-given.ensures);
      },
    )
