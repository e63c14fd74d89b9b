use Rattle.std.proofs.Common.{refl}
use Rattle.tree_core.specs.Resolving.{resolving}
use Rattle.tree_core.proofs.Asking.{asks_then, asks_fails_in}
use Rattle.swc_loader.specs.NodeRows.{at_root}
use Rattle.swc_loader.proofs.Places.{asks_place}
use Rattle.swc_loader.proofs.resolver.NodeModulesResolver.search_root.Goals as goal

pub returns-in_err-found : goal.returns-in_err-found
unfolding at_root
returns-in_err-found g c =
    asks_fails_in resolving _ _ c.from_residual-in_err-found.ensures.1
    (asks_place c.context-context.ensures.conventions c.context-context.ensures.target refl refl c.root.ensures
    c.in_ok-at.ensures c.in_err-found.ensures)

pub returns : goal.returns
unfolding at_root
returns g c =
    asks_then _ (asks_place c.context-context.ensures.conventions c.context-context.ensures.target refl refl
    c.root.ensures c.in_ok-at.ensures c.in_ok-found.ensures) c.answer_found.ensures
