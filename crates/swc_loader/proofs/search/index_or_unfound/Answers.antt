use Rattle.std.proofs.Common.{refl}
use Rattle.tree_core.proofs.Asking.{asks_as, asks_done, asks_fails}
use Rattle.swc_loader.specs.Search.{first_or}
use Rattle.swc_loader.proofs.search.index_or_unfound.Goals as goal

pub returns-in_err-file : goal.returns-in_err-file
unfolding first_or
returns-in_err-file g c = asks_fails _ _ c.from_residual.ensures.1 c.in_err-file.ensures

pub returns-in-Some : goal.returns-in-Some
unfolding first_or
returns-in-Some g c = asks_as _ c.in_ok-file.ensures c.in-Some.is (asks_done refl)

pub returns-in-None : goal.returns-in-None
unfolding first_or
returns-in-None g c = asks_as _ c.in_ok-file.ensures c.in-None.is (asks_done refl)
