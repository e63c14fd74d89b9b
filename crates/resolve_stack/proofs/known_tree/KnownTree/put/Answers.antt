use Rattle.resolve_stack.proofs.KnownFiles.{beside-insert}
use Rattle.resolve_stack.proofs.known_tree.KnownTree.put.Goals as goal

pub invariant_of-self-2 : goal.invariant_of-self-2
invariant_of-self-2 c = c.forget.ensures _ _ (rw c.in_ok-put.ensures.ok (beside-insert _ _ _)) c.self.invariant
