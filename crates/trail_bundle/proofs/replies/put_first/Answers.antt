use Rattle.std.proofs.Common.{ap, sym, ◌∙◌, Some}
use Rattle.sugar_path.proofs.Bools.{and_both}
use Rattle.tree_core.specs.Question.{fits, reply_in}
use Rattle.trail_bundle.specs.Bundle.{holds_bytes}
use Rattle.trail_bundle.specs.Keeping.{reply_at}
use Rattle.trail_bundle.proofs.Keeping.{
  absent_at,
  are_with,
  before_push,
  changed,
  found_at,
  held,
  others,
  put_in,
  unchanged,
}
use Rattle.trail_bundle.proofs.replies.put_first.Goals as goal

pub returns-then-contains_key-clause-ok : goal.returns-then-contains_key-clause-ok
returns-then-contains_key-clause-ok c =
    held (reply_at c.args.replies.now) (reply_in c.args.trail.now) c.args.question.now
    (found_at c.args.replies.now c.in_ok-key.key c.args.question.now _ c.contains_key.ensures c.in_ok-key.ensures
    ∙ c.if-contains_key.true)

pub returns-in_err-insert-clause-back : goal.returns-in_err-insert-clause-back
returns-in_err-insert-clause-back c =
    before_push c.args.fresh.now.items c.push.new.self.items c.in_ok-noted.noted c.args.replies.now c.insert.new.self
    c.in_ok-push.ensures.items
    (absent_at c.args.replies.now c.in_ok-key.key c.in_ok-noted.noted.question _ c.contains_key.ensures
    (c.in_ok-key.ensures ∙ sym c.in_ok-noted.ensures) c.if-contains_key.false)
    (λ q h. unchanged c.args.replies.now c.insert.new.self c.in_err-insert.ensures.err q)

pub returns-clause-ok : goal.returns-clause-ok
returns-clause-ok c =
    put_in (reply_at c.args.replies.now) (reply_at c.insert.new.self) (reply_in c.args.trail.now) c.args.question.now
    c.in_ok-reply.reply
    (absent_at c.args.replies.now c.in_ok-key.key c.args.question.now _ c.contains_key.ensures c.in_ok-key.ensures
    c.if-contains_key.false)
    (sym c.in-Some.ensures.reply ∙ ap Some (sym c.in_ok-reply.ensures))
    (changed c.args.replies.now c.insert.new.self c.in_ok-key.key c.args.question.now (Some c.in_ok-reply.reply)
    c.in_ok-insert.ensures.updates c.in_ok-key.ensures)

pub returns-clause-back : goal.returns-clause-back
returns-clause-back c =
    before_push c.args.fresh.now.items c.push.new.self.items c.in_ok-noted.noted c.args.replies.now c.insert.new.self
    c.in_ok-push.ensures.items
    (absent_at c.args.replies.now c.in_ok-key.key c.in_ok-noted.noted.question _ c.contains_key.ensures
    (c.in_ok-key.ensures ∙ sym c.in_ok-noted.ensures) c.if-contains_key.false)
    (others (reply_at c.args.replies.now) (reply_at c.insert.new.self) c.in_ok-noted.noted.question
    (Some c.in_ok-reply.reply)
    (changed c.args.replies.now c.insert.new.self c.in_ok-key.key c.in_ok-noted.noted.question
    (Some c.in_ok-reply.reply) c.in_ok-insert.ensures.updates (c.in_ok-key.ensures ∙ sym c.in_ok-noted.ensures)))

pub returns-clause-are : goal.returns-clause-are
returns-clause-are c =
    are_with c.args.replies.now c.insert.new.self c.in_ok-key.key c.in_ok-reply.reply c.in_ok-insert.ensures.entries
    c.in_ok-insert.ensures.ordered
    (and_both (fits c.in_ok-key.key.question c.in_ok-reply.reply) (holds_bytes c.in_ok-reply.reply)
    (ap (λ q. fits q c.in_ok-reply.reply) c.in_ok-key.ensures ∙ ap (fits c.args.question.now) c.in_ok-reply.ensures
    ∙ c.in-Some.ensures.fits)
    c.reply_holds_bytes.ensures)
