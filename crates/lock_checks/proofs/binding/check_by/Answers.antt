use Rattle.std.proofs.Common.{refl}
use Rattle.tree_core.proofs.Asking.{asks_done}
use Rattle.lock_checks.proofs.binding.check_by.Goals as goal

pub returns-in-None : goal.returns-in-None
returns-in-None g c = rw c.in-None.is (asks_done refl)
