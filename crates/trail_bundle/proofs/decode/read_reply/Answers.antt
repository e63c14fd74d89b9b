use Rattle.std.proofs.Common.{ap, sym, ◌∙◌, subst, ◌++◌}
use Rattle.trail_bundle.specs.Bundle.{AreReplies}
use Rattle.trail_bundle.specs.BundleText.{ended}
use Rattle.trail_bundle.specs.Steps.{steps_of}
use Rattle.trail_bundle.proofs.LineCauses.{no_reply-early, no_reply-other, no_reply-unended}
use Rattle.trail_bundle.proofs.Orders.{insert_last, replies-behind}
use Rattle.trail_bundle.proofs.decode.read_reply.Goals as goal

pub returns-in_default-clause-lacks : goal.returns-in_default-clause-lacks
returns-in_default-clause-lacks c = (
  c.number-number.ensures,
  no_reply-unended (steps_of c.args.replies.now.entries) c.args.lines.now.rest.now
      c.in_default.ensures.last,
)

pub returns-in_default-2-clause-lacks : goal.returns-in_default-2-clause-lacks
returns-in_default-2-clause-lacks c = (
  c.number-number.ensures,
  no_reply-other (steps_of c.args.replies.now.entries) c.in-Some.line.now c.args.lines.now.rest.now _
      c.in-Some.ensures.rest c.in-Some.ensures.line
      (rw c.in_default-2.is at c.in_ok-question.ensures.none),
)

pub returns-then-not-is_behind-clause-lacks : goal.returns-then-not-is_behind-clause-lacks
returns-then-not-is_behind-clause-lacks c = (
  c.number-number.ensures,
  no_reply-early (steps_of c.args.replies.now.entries) c.in-Some.line.now c.args.lines.now.rest.now _
      (c.in-Some-2.question, c.in-Some-2.reply)
      c.in-Some.ensures.rest c.in-Some.ensures.line
      (rw c.in-Some-2.is at c.in_ok-question.ensures.some) (rw c.in-Some-2.is at c.in_ok-question.ensures.reply)
      (sym c.is_behind.ensures ∙ c.if-not-is_behind.true),
)

pub returns-clause-front : goal.returns-clause-front
returns-clause-front c = record {
  step = (c.in-Some-2.question, c.in-Some-2.reply);
  steps =
      ap steps_of c.in_ok-insert.ensures.entries
      ∙ insert_last c.args.replies.now.entries (record { question = c.in-Some-2.question }) c.in-Some-2.reply
      (sym c.is_behind.ensures ∙ c.if-not-is_behind.false);
  front = c.in-Some.ensures.rest ∙ ap (λ l. ended l ++ c.next.new.self.rest.now)
      (rw c.in-Some-2.is at c.in_ok-question.ensures.some);
}

pub returns-clause-are : goal.returns-clause-are
returns-clause-are c =
    let above = sym c.is_behind.ensures ∙ c.if-not-is_behind.false in
    let told = ap steps_of c.in_ok-insert.ensures.entries
    ∙ insert_last c.args.replies.now.entries (record { question = c.in-Some-2.question }) c.in-Some-2.reply above in
    subst AreReplies (sym told)
    (replies-behind (steps_of c.args.replies.now.entries) (c.in-Some-2.question, c.in-Some-2.reply) c.requires above
    (rw c.in-Some-2.is at c.in_ok-question.ensures.reply))
