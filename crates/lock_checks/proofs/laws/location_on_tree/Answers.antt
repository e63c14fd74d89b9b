use Rattle.lock_checks.proofs.OnTrees.{location_on_tree as law}
use Rattle.lock_checks.proofs.laws.location_on_tree.Goals as goal

pub returns : goal.returns
returns c = law
