use Rattle.std.proofs.Common.{ap, ◌∙◌}
use Rattle.tree_core.specs.Tree.{Files, is_folder}
use Rattle.tree_core.specs.Memory.{Memory, Failing}
use Rattle.tree_core.specs.declared.question.Question.TheVariants.{Dir}
use Rattle.tree_core.specs.declared.question.Reply.TheVariants.{Flag}
use Rattle.tree_core.proofs.MemoryReplies.{refused_one, answered_one}
use Rattle.tree_core.proofs.failing.FailingTreeTree.is_dir.Goals as goal

pub returns-then-refuses : goal.returns-then-refuses
returns-then-refuses c =
    refused_one Flag (Dir c.args.p.now) c.refuses.ensures.test c.if-refuses.true c.refuses.ensures.after

pub returns : goal.returns
returns c =
    let files = ap (λ (m : Failing). m.memory.files) (c.self.view_is ∙ c.refuses.ensures.after) in
    answered_one Flag (Dir c.args.p.now) _ c.refuses.ensures.test c.if-refuses.false
    (ap Flag (c.has_folder.ensures.value ∙ ap (λ (files : Files). is_folder files c.args.p.now) files))
    (ap (λ (m : Memory). record { memory = m; calls = c.self.inside.calls; faults = c.self.inside.faults })
    c.has_folder.ensures.same ∙ c.self.view_is ∙ c.refuses.ensures.after)
