use Rattle.std.proofs.Common.{option_map, ap, ◌∙◌}
use Rattle.std.specs.FinMap as map
use Rattle.tree_core.specs.Tree.{Files}
use Rattle.tree_core.specs.Memory.{Failing}
use Rattle.tree_core.specs.declared.question.Question.TheVariants.{Read}
use Rattle.tree_core.specs.declared.question.Reply.TheVariants.{Bytes}
use Rattle.tree_core.proofs.MemoryReplies.{refused_one, answered_one, starved_one}
use Rattle.tree_core.proofs.failing.FailingTreeTree.read.Goals as goal

pub returns-then-refuses : goal.returns-then-refuses
returns-then-refuses c =
    refused_one Bytes (Read c.args.p.now) c.refuses.ensures.test c.if-refuses.true c.refuses.ensures.after

pub returns-in_err-content_at : goal.returns-in_err-content_at
returns-in_err-content_at c = starved_one Bytes (Read c.args.p.now) _ c.from_residual.ensures.1 c.refuses.ensures.test
    c.if-refuses.false c.refuses.ensures.after

pub returns : goal.returns
returns c =
    let files = ap (λ (m : Failing). m.memory.files) (c.self.view_is ∙ c.refuses.ensures.after) in
    answered_one Bytes (Read c.args.p.now) _ c.refuses.ensures.test c.if-refuses.false
    (ap Bytes (c.in_ok-content_at.ensures ∙ ap (λ (files : Files). option_map (λ g. g.content)
    (map.get files c.args.p.now)) files))
    c.refuses.ensures.after
