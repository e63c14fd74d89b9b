use Rattle.std.proofs.Common.{ap, ◌∙◌}
use Rattle.tree_core.specs.Tree.{Files, is_file}
use Rattle.tree_core.specs.Memory.{Failing}
use Rattle.tree_core.specs.declared.question.Question.TheVariants.{File}
use Rattle.tree_core.specs.declared.question.Reply.TheVariants.{Flag}
use Rattle.tree_core.proofs.MemoryReplies.{refused_one, answered_one}
use Rattle.tree_core.proofs.failing.FailingTreeTree.is_file.Goals as goal

pub returns-then-refuses : goal.returns-then-refuses
returns-then-refuses c =
    refused_one Flag (File c.args.p.now) c.refuses.ensures.test c.if-refuses.true c.refuses.ensures.after

pub returns : goal.returns
returns c =
    let files = ap (λ (m : Failing). m.memory.files) (c.self.view_is ∙ c.refuses.ensures.after) in
    answered_one Flag (File c.args.p.now) _ c.refuses.ensures.test c.if-refuses.false
    (ap Flag (c.has_file.ensures ∙ ap (λ (files : Files). is_file files c.args.p.now) files))
    c.refuses.ensures.after
