use Rattle.std.proofs.Common.{refl}
use Rattle.tree_core.proofs.Asking.{asks_as, asks_done, asks_fails}
use Rattle.swc_loader.proofs.Firsts.{first_file-two}
use Rattle.swc_loader.proofs.candidates.itself_or_ending.Goals as goal

pub returns-in_err-file : goal.returns-in_err-file
returns-in_err-file g c = rw first_file-two (asks_fails _ _ c.from_residual.ensures.1 c.in_err-file.ensures)

pub returns-in-Some : goal.returns-in-Some
returns-in-Some g c = rw first_file-two (asks_as _ c.in_ok-file.ensures c.in-Some.is (asks_done refl))

pub returns : goal.returns
returns g c = rw first_file-two (asks_as _ c.in_ok-file.ensures c.in_default.is
    (rw c.endings.ensures.list at c.first_with_ending.ensures))
