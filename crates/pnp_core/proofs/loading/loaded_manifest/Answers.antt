use Rattle.tree_core.proofs.Asking.{asks_then, asks_fails_in, asks_decided}
use Rattle.tree_core.specs.Resolving.{resolving}
use Rattle.pnp_core.specs.Loading.{loading}
use Rattle.pnp_core.proofs.loading.loaded_manifest.Goals as goal

pub returns-in_err-content-clause-asks : goal.returns-in_err-content-clause-asks
unfolding loading
returns-in_err-content-clause-asks g c = asks_fails_in resolving _ _ c.from_residual.ensures.1 c.in_err-content.ensures

pub returns-clause-asks : goal.returns-clause-asks
unfolding loading
returns-clause-asks g c = asks_then _ c.in_ok-content.ensures (asks_decided _ c.manifest_of_content.ensures.decided)
