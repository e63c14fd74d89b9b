use Rattle.pnp_core.proofs.NamesOnce.{names_stand_once as law}
use Rattle.pnp_core.proofs.laws.names_stand_once.Goals as goal

pub returns : goal.returns
returns c = law
