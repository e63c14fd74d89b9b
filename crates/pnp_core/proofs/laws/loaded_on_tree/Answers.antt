use Rattle.pnp_core.proofs.OnTrees.{loaded_on_tree as law}
use Rattle.pnp_core.proofs.laws.loaded_on_tree.Goals as goal

pub returns : goal.returns
returns c = law
