use Rattle.pnp_core.proofs.Ownerships.{owner_owns as law}
use Rattle.pnp_core.proofs.laws.owner_owns.Goals as goal

pub returns : goal.returns
returns c = law
