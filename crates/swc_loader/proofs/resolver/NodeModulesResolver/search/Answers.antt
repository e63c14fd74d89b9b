use Rattle.tree_core.specs.Resolving.{resolving}
use Rattle.tree_core.proofs.Asking.{asks_starved_in}
use Rattle.swc_loader.proofs.resolver.NodeModulesResolver.search.Goals as goal

pub returns-in_err-path : goal.returns-in_err-path
returns-in_err-path g c = asks_starved_in resolving _ c.from_residual.ensures.1
