use Rattle.tree_core.proofs.Asking.{asks_as, asks_fails}
use Rattle.swc_loader.specs.Search.{folder}
use Rattle.swc_loader.proofs.search.folder.Goals as goal

pub returns-in_err-is_file : goal.returns-in_err-is_file
unfolding folder
returns-in_err-is_file g c = asks_fails _ _ c.from_residual-in_err-is_file.ensures.1
    (rw c.in_ok-package_json.ensures at c.in_err-is_file.ensures)

pub returns-then-branch : goal.returns-then-branch
unfolding folder
returns-then-branch g c =
    asks_as _ (rw c.in_ok-package_json.ensures at c.in_ok-is_file.ensures) c.if-branch.true c.packaged_folder.ensures

pub returns : goal.returns
unfolding folder
returns g c =
    asks_as _ (rw c.in_ok-package_json.ensures at c.in_ok-is_file.ensures) c.if-branch.false c.first_index.ensures
