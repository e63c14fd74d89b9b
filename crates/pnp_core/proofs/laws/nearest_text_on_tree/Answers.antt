use Rattle.pnp_core.proofs.OnTrees.{nearest_text_on_tree as law}
use Rattle.pnp_core.proofs.laws.nearest_text_on_tree.Goals as goal

pub returns : goal.returns
returns c = law
