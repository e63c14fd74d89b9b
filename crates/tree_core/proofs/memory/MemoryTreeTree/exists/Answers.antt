use Rattle.std.proofs.Common.{◌||◌, ap, ◌∙◌}
use Rattle.tree_core.specs.Tree.{is_file, is_folder}
use Rattle.tree_core.specs.Memory.{Memory}
use Rattle.tree_core.specs.declared.question.Question.TheVariants.{Exists}
use Rattle.tree_core.specs.declared.question.Reply.TheVariants.{Flag}
use Rattle.tree_core.proofs.MemoryReplies.{replied}
use Rattle.tree_core.proofs.memory.MemoryTreeTree.exists.Goals as goal

pub returns-clause-replied : goal.returns-clause-replied
returns-clause-replied c =
    replied Flag (Exists c.args.p.now) _ _ _ (ap Flag (c.has_path.ensures.value
    ∙ ap (λ (m : Memory). is_file m.files c.args.p.now || is_folder m.files c.args.p.now) c.count.ensures)) tt
    (c.has_path.ensures.same ∙ c.count.ensures)
