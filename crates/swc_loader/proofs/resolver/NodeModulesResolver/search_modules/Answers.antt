use Rattle.std.proofs.Common.{◌∷◌, true}
use Rattle.sugar_path.specs.Path.{up}
use Rattle.tree_core.specs.Resolving.{resolving}
use Rattle.tree_core.proofs.Asking.{asks_then, asks_fails_in}
use Rattle.swc_loader.specs.NodeRows.{answer_found, walked}
use Rattle.swc_loader.proofs.Walks.{asks_walk}
use Rattle.swc_loader.proofs.resolver.NodeModulesResolver.search_modules.Goals as goal

pub returns-in_err-folder : goal.returns-in_err-folder
unfolding walked
returns-in_err-folder g c =
    asks_fails_in resolving _ _ c.from_residual.ensures.1 (rw c.requires at c.in_err-folder.ensures)

pub returns-in_err-found : goal.returns-in_err-found
unfolding walked
returns-in_err-found g c =
    asks_then _ (rw c.requires at c.in_ok-folder.ensures)
    (asks_fails_in resolving (λ found. answer_found c.args.self.now c.args.target.now true found) _
    c.from_residual-in_err-found.ensures.1 (asks_walk c.args.target.now
    (c.in_ok-folder.folder ∷ up c.in_ok-folder.folder) c.context-context.ensures.conventions
    c.context-context.ensures.target c.in_err-found.ensures))

pub returns : goal.returns
unfolding walked
returns g c =
    asks_then _ (rw c.requires at c.in_ok-folder.ensures)
    (asks_then (λ found. answer_found c.args.self.now c.args.target.now true found)
    (asks_walk c.args.target.now (c.in_ok-folder.folder ∷ up c.in_ok-folder.folder)
    c.context-context.ensures.conventions c.context-context.ensures.target c.in_ok-found.ensures) c.answer_found.ensures)
