use Rattle.std.proofs.Common.{refl}
use Rattle.tree_core.proofs.Asking.{asks_as, asks_done, asks_fails, asks_starved}
use Rattle.swc_loader.specs.NodeRows.{before_search}
use Rattle.swc_loader.proofs.resolver.NodeModulesResolver.before_search_with.Goals as goal

pub returns-in_err-resolution : goal.returns-in_err-resolution
unfolding before_search
returns-in_err-resolution g c = asks_fails _ _ c.from_residual.ensures.1 c.in_err-resolution.ensures

pub returns-in-Some : goal.returns-in-Some
unfolding before_search
returns-in-Some g c = asks_as _ c.in_ok-resolution.ensures c.in-Some.is (asks_done refl)

pub returns-in_err-core_module_or_target-in-None : goal.returns-in_err-core_module_or_target-in-None
unfolding before_search
returns-in_err-core_module_or_target-in-None g c =
    asks_as _ c.in_ok-resolution.ensures c.in-None.is (asks_starved _
    c.from_residual-in_err-core_module_or_target-in-None.ensures.1)

pub returns-in_ok-core_module_or_target-in-None : goal.returns-in_ok-core_module_or_target-in-None
unfolding before_search
returns-in_ok-core_module_or_target-in-None g c =
    asks_as _ c.in_ok-resolution.ensures c.in-None.is (asks_done c.in_ok-core_module_or_target-in-None.ensures)
