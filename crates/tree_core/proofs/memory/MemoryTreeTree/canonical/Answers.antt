use Rattle.std.proofs.Common.{option_map, ap, ◌∙◌}
use Rattle.std.specs.FinMap as map
use Rattle.tree_core.specs.Memory.{Memory}
use Rattle.tree_core.specs.declared.question.Question.TheVariants.{Canon}
use Rattle.tree_core.specs.declared.question.Reply.TheVariants.{Name}
use Rattle.tree_core.proofs.MemoryReplies.{replied}
use Rattle.tree_core.proofs.memory.MemoryTreeTree.canonical.Goals as goal

pub returns : goal.returns
returns c =
    replied Name (Canon c.args.p.now) _ _ _ (ap Name (c.in_ok-canonical_at.ensures
    ∙ ap (λ (m : Memory). option_map (λ g. g.canonical) (map.get m.files c.args.p.now)) c.count.ensures)) tt
    (c.count.ensures)
