use Rattle.tree_core.proofs.Conflicts.{store-empty}
use Rattle.tree_core.proofs.memory.MemoryTree.new.Goals as goal

pub invariant_of-result : goal.invariant_of-result
invariant_of-result c = rw c.new.ensures.empty (store-empty _)
