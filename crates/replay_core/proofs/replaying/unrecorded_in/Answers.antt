use Rattle.std.proofs.Common.{sym, ap, ◌∙◌, option_map}
use Rattle.tree_core.specs.declared.question.Question.{Question}
use Rattle.tree_core.specs.declared.question.Reply.{Reply}
use Rattle.replay_core.proofs.Replays.{first_step}
use Rattle.replay_core.proofs.replaying.unrecorded_in.Goals as goal

pub returns-in-Some : goal.returns-in-Some
returns-in-Some c = ap (option_map (λ (step : Question × Reply). step.0)) c.in-Some.ensures
    ∙ sym (first_step c.args.trail.now c.args.put.now)

pub returns-in-None : goal.returns-in-None
returns-in-None c = ap (option_map (λ (step : Question × Reply). step.0)) c.in-None.ensures
    ∙ sym (first_step c.args.trail.now c.args.put.now)
