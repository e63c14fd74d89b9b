use Rattle.std.proofs.Common.{ap, ◌∙◌, is_some}
use Rattle.tree_core.specs.Question.{reply_in}
use Rattle.tree_core.proofs.Recorded.{new-push}
use Rattle.tree_core.proofs.recorder.note.Goals as goal

pub returns-clause-known : goal.returns-clause-known
returns-clause-known c = λ none. ap (λ steps. reply_in steps c.args.question) c.in_ok-push.ensures.ok
    ∙ new-push c.args.trail.now c.args.question c.args.reply (ap is_some none)
