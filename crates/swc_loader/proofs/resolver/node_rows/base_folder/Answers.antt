use Rattle.std.proofs.Common.{◌∙◌}
use Rattle.tree_core.proofs.Asking.{asks_as, asks_done, asks_fails}
use Rattle.swc_loader.specs.NodeRows.{base_folder}
use Rattle.swc_loader.proofs.resolver.node_rows.base_folder.Goals as goal
use Rattle.swc_loader.proofs.resolver.node_rows.base_folder.Goals.{then-branch, else-branch}

pub returns-in_err-is_file : goal.returns-in_err-is_file
unfolding base_folder
returns-in_err-is_file g c =
    rw (← c.in_ok-folder.ensures) (asks_fails _ _ c.from_residual-in_err-is_file.ensures.1 c.in_err-is_file.ensures)

pub returns : goal.returns
unfolding base_folder
returns g c =
    rw (← c.in_ok-folder.ensures)
    (elim c.if-branch.branch [
      | then-branch w ↦ asks_as _ c.in_ok-is_file.ensures w.if-branch.true
          (asks_done (w.folder-is ∙ w.go_up-above.ensures.up))
      | else-branch w ↦ asks_as _ c.in_ok-is_file.ensures w.if-branch.false (asks_done w.folder-is)
    ])
