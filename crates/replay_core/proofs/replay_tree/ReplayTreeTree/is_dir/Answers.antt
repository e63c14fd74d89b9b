use Rattle.std.proofs.Common.{ap}
use Rattle.tree_core.specs.declared.question.Question.TheVariants.{Dir}
use Rattle.tree_core.specs.declared.question.Reply.TheVariants.{Flag}
use Rattle.replay_core.specs.ReplayView.{replay_of}
use Rattle.replay_core.proofs.Questions.{replayed, known_as}
use Rattle.replay_core.proofs.replay_tree.ReplayTreeTree.is_dir.Goals as goal

pub returns : goal.returns
returns c =
    replayed Flag (Dir c.args.p.now) c.in-Flag.b c.count.ensures c.in_ok-b.ensures.same
    (known_as (replay_of c.count.new.self).trail _ _ _ _ c.in_ok-b.ensures.known (ap Dir c.in_ok-of.ensures)
    c.in-Flag.is)
