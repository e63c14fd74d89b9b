use Rattle.pnp_core.proofs.Findings.{finding_on_tree as law}
use Rattle.pnp_core.proofs.laws.finding_on_tree.Goals as goal

pub returns : goal.returns
returns c = law
