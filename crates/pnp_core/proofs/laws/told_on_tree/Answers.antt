use Rattle.pnp_core.proofs.OnTrees.{told_on_tree as law}
use Rattle.pnp_core.proofs.laws.told_on_tree.Goals as goal

pub returns : goal.returns
returns c = law
