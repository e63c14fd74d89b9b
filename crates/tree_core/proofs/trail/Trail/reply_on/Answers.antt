use Rattle.std.proofs.Common.{◌≡◌, Some, get_or, sym, ap, ◌∙◌}
use Rattle.tree_core.specs.declared.question.Question.{Question}
use Rattle.tree_core.specs.declared.question.Reply.{Reply}
use Rattle.tree_core.specs.Question.{reply_in, all_fit}
use Rattle.tree_core.specs.QuestionKind.{question_on}
use Rattle.tree_core.proofs.Replies.{fits-reply_in}
use Rattle.tree_core.proofs.Places.{no_reply, reply_at}
use Rattle.tree_core.proofs.trail.Trail.reply_on.Goals as goal

pub returns-in-None-clause-reply : goal.returns-in-None-clause-reply
returns-in-None-clause-reply c =
    sym (no_reply c.args.self.now (question_on c.args.kind c.args.path.now) (sym c.in-None.ensures))

known : (c : goal.After-index) → reply_in c.args.self.now (question_on c.args.kind c.args.path.now) ≡ Some
    c.index.result.now.1
known c =
    reply_at c.args.self.now (question_on c.args.kind c.args.path.now) c.in-Some.place c.index.result.now
    (sym c.in-Some.ensures)
    ∙ ap (λ steps. Some (get_or steps c.in-Some.place c.index.result.now).1) (sym c.self.view_is)
    ∙ ap (λ (step : Question × Reply). Some step.1) (sym c.index.ensures)

pub returns-in-Some-clause-reply : goal.returns-in-Some-clause-reply
returns-in-Some-clause-reply c = sym (known c)

pub returns-in-Some-clause-fits : goal.returns-in-Some-clause-fits
returns-in-Some-clause-fits c = fits-reply_in c.args.self.now (question_on c.args.kind c.args.path.now)
    c.index.result.now.1 (ap all_fit (sym c.self.view_is) ∙ c.self.invariant.fit) (known c)
