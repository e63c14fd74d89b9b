use Rattle.std.proofs.Common.{List, ap, subst}
use Rattle.std.specs.Prelude.{IfOk}
use Rattle.replay_core.specs.Agreeing.{agrees_with}
use Rattle.replay_core.specs.Replay.{Replay}
use Rattle.tree_core.specs.Asks.{AgreeWith}
use Rattle.tree_core.specs.declared.question.Question.{Question}
use Rattle.tree_core.specs.declared.question.Reply.{Reply}
use Rattle.trail_bundle.proofs.replaying.outcome_by.Goals as goal

pub returns-clause-agree : goal.returns-clause-agree
returns-clause-agree c =
    subst (λ (steps : List (Question × Reply)). IfOk c.resolve_import_with.result
    (λ o. AgreeWith (agrees_with steps) o.trail))
    (ap (λ (r : Replay). r.trail) c.of-tree.ensures) c.resolve_import_with.ensures.agree
