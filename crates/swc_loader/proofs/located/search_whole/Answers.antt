use Rattle.tree_core.specs.Resolving.{resolving}
use Rattle.tree_core.proofs.Asking.{asks_then, asks_fails_in}
use Rattle.swc_loader.specs.Located.{whole}
use Rattle.swc_loader.proofs.located.search_whole.Goals as goal

pub returns-in_err-found : goal.returns-in_err-found
unfolding whole
returns-in_err-found g c =
    asks_fails_in resolving _ _ c.from_residual.ensures.1 (rw
    (c.context-context.ensures.conventions, c.context-context.ensures.target) at c.in_err-found.ensures)

pub returns : goal.returns
unfolding whole
returns g c =
    asks_then _ (rw (c.context-context.ensures.conventions, c.context-context.ensures.target) at c.in_ok-found.ensures)
    (rw c.as_str.ensures.text at c.placed_file.ensures)
