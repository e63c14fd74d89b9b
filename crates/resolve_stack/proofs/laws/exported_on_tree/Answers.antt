use Rattle.resolve_stack.proofs.OnTrees.{exported_on_tree as law}
use Rattle.resolve_stack.proofs.laws.exported_on_tree.Goals as goal

pub returns : goal.returns
returns c = law
