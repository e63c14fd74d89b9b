use Rattle.std.proofs.Common.{None, refl}
use Rattle.tree_core.proofs.Asking.{asks_done}
use Rattle.resolve_stack.proofs.ExportedFiles.{asks_under}
use Rattle.resolve_stack.proofs.exports.exported_file.Goals as goal

pub returns-in-None : goal.returns-in-None
returns-in-None g c =
    asks_under None c.args.project.now.conditions c.args.location.now _ _ c.in-None.ensures refl (asks_done refl)
