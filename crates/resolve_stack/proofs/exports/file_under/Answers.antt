use Rattle.std.proofs.Common.{refl}
use Rattle.tree_core.specs.Resolving.{resolving}
use Rattle.tree_core.proofs.Asking.{asks_done, asks_stops, asks_then}
use Rattle.resolve_stack.proofs.exports.file_under.Goals as goal

pub returns-in_err-package_json : goal.returns-in_err-package_json
returns-in_err-package_json g c = asks_stops resolving _ _ _ c.from_residual.ensures.1 c.in_err-package_json.ensures

pub returns-in-Some : goal.returns-in-Some
returns-in-Some g c = asks_then _ (rw c.in-Some.is at c.in_ok-package_json.ensures) c.file_by_exports.ensures

pub returns-in-None : goal.returns-in-None
returns-in-None g c = asks_then _ (rw c.in-None.is at c.in_ok-package_json.ensures) (asks_done refl)
