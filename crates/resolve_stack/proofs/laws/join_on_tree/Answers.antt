use Rattle.resolve_stack.proofs.OnTrees.{join_on_tree as law}
use Rattle.resolve_stack.proofs.laws.join_on_tree.Goals as goal

pub returns : goal.returns
returns c = law
