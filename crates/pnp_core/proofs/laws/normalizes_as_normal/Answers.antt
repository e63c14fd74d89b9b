use Rattle.pnp_core.proofs.PathForms.{normalize_path-normal}
use Rattle.pnp_core.proofs.laws.normalizes_as_normal.Goals as goal

pub returns : goal.returns
returns c = normalize_path-normal
