use Rattle.std.proofs.Common.{ap, ◌∙◌}
use Rattle.tree_core.specs.Question.{place_in}
use Rattle.tree_core.proofs.QuestionKinds.{same_question}
use Rattle.tree_core.proofs.trail.Trail.place_of.Goals as goal

pub returns : goal.returns
returns c = c.place_on.ensures ∙ ap (place_in c.args.self.now)
    (same_question c.args.question.now c.kind.result c.path.result.now c.kind.ensures c.path.ensures)
