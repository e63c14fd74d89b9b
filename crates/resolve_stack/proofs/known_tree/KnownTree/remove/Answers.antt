use Rattle.resolve_stack.proofs.KnownFiles.{beside-remove}
use Rattle.resolve_stack.proofs.known_tree.KnownTree.remove.Goals as goal

pub invariant_of-self : goal.invariant_of-self
invariant_of-self c = c.forget.ensures _ _ (rw c.remove-was.ensures.gone (beside-remove _ _)) c.self.invariant
