use Rattle.std.proofs.Common.{sym, ap, ◌∙◌}
use Rattle.tree_core.specs.declared.question.Question.TheVariants.{Read}
use Rattle.tree_core.specs.declared.question.Reply.TheVariants.{Bytes}
use Rattle.replay_core.specs.ReplayView.{replay_of}
use Rattle.replay_core.proofs.Questions.{replayed, known_as}
use Rattle.replay_core.proofs.replay_tree.ReplayTreeTree.read.Goals as goal

pub returns : goal.returns
returns c =
    replayed Bytes (Read c.args.p.now) c.in-Bytes.bytes c.count.ensures c.in_ok-reply.ensures.same
    (known_as (replay_of c.count.new.self).trail _ _ _ _ c.in_ok-reply.ensures.known (ap Read c.in_ok-of.ensures)
    (sym c.in_ok-bytes.ensures ∙ c.in-Bytes.is))
