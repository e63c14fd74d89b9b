use Rattle.pnp_core.proofs.VirtualPaths.{parts_are_all as law}
use Rattle.pnp_core.proofs.laws.parts_are_all.Goals as goal

pub returns : goal.returns
returns c = law
