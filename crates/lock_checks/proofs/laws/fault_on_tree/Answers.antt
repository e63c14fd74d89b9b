use Rattle.lock_checks.proofs.OnTrees.{fault_on_tree as law}
use Rattle.lock_checks.proofs.laws.fault_on_tree.Goals as goal

pub returns : goal.returns
returns c = law
