use Rattle.std.proofs.Common.{ap, ◌∙◌}
use Rattle.tree_core.specs.Tree.{is_folder}
use Rattle.tree_core.specs.Memory.{Memory}
use Rattle.tree_core.specs.declared.question.Question.TheVariants.{Dir}
use Rattle.tree_core.specs.declared.question.Reply.TheVariants.{Flag}
use Rattle.tree_core.proofs.MemoryReplies.{replied}
use Rattle.tree_core.proofs.memory.MemoryTreeTree.is_dir.Goals as goal

pub returns-clause-replied : goal.returns-clause-replied
returns-clause-replied c =
    replied Flag (Dir c.args.p.now) _ _ _ (ap Flag (c.has_folder.ensures.value
    ∙ ap (λ (m : Memory). is_folder m.files c.args.p.now) c.count.ensures)) tt
    (c.has_folder.ensures.same ∙ c.count.ensures)
