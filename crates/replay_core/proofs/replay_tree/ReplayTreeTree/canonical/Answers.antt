use Rattle.std.proofs.Common.{sym, ap, ◌∙◌}
use Rattle.tree_core.specs.declared.question.Question.TheVariants.{Canon}
use Rattle.tree_core.specs.declared.question.Reply.TheVariants.{Name}
use Rattle.replay_core.specs.ReplayView.{replay_of}
use Rattle.replay_core.proofs.Questions.{replayed, known_as}
use Rattle.replay_core.proofs.replay_tree.ReplayTreeTree.canonical.Goals as goal

pub returns : goal.returns
returns c =
    replayed Name (Canon c.args.p.now) c.in-Name.name c.count.ensures c.in_ok-reply.ensures.same
    (known_as (replay_of c.count.new.self).trail _ _ _ _ c.in_ok-reply.ensures.known (ap Canon c.in_ok-of.ensures)
    (sym c.in_ok-name.ensures ∙ c.in-Name.is))
