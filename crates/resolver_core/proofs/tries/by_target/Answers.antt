use Rattle.std.proofs.Common.{refl}
use Rattle.tree_core.proofs.Asking.{asks_as, asks_done, asks_fails, asks_starved}
use Rattle.resolver_core.proofs.tries.by_target.Goals as goal

pub returns-in_err-as_it_is-clause-asks : goal.returns-in_err-as_it_is-clause-asks
returns-in_err-as_it_is-clause-asks g c = asks_fails _ _ c.from_residual.ensures.1 c.in_err-as_it_is.ensures.asks

pub returns-in-Ok-clause-asks : goal.returns-in-Ok-clause-asks
returns-in-Ok-clause-asks g c = asks_as _ c.in_ok-as_it_is.ensures.asks c.in-Ok.is (asks_done refl)

pub returns-in_err-relative-clause-asks : goal.returns-in_err-relative-clause-asks
returns-in_err-relative-clause-asks g c =
    asks_as _ c.in_ok-as_it_is.ensures.asks c.in-Err.is (asks_starved _ c.from_residual-in_err-relative.ensures.1)

pub returns-in_err-from_folder-clause-asks : goal.returns-in_err-from_folder-clause-asks
returns-in_err-from_folder-clause-asks g c =
    let same = rw c.in-Err.is at c.in_ok-as_it_is.ensures.refused in
    asks_as _ c.in_ok-as_it_is.ensures.asks c.in-Err.is
    (asks_fails _ _ c.from_residual-in_err-from_folder.ensures.1
    (rw (same, c.as_str.ensures, c.in_ok-relative.ensures) at c.in_err-from_folder.ensures.asks))

pub returns-in-Ok-from_folder-clause-asks : goal.returns-in-Ok-from_folder-clause-asks
returns-in-Ok-from_folder-clause-asks g c =
    let same = rw c.in-Err.is at c.in_ok-as_it_is.ensures.refused in
    asks_as _ c.in_ok-as_it_is.ensures.asks c.in-Err.is
    (asks_as _ (rw (same, c.as_str.ensures, c.in_ok-relative.ensures) at c.in_ok-from_folder.ensures.asks)
    c.in-Ok-from_folder.is (asks_done refl))

pub returns-clause-asks : goal.returns-clause-asks
returns-clause-asks g c =
    let same = rw c.in-Err.is at c.in_ok-as_it_is.ensures.refused in
    let later = rw c.in-Err-from_folder.is at c.in_ok-from_folder.ensures.refused in
    asks_as _ c.in_ok-as_it_is.ensures.asks c.in-Err.is
    (asks_as _ (rw (same, c.as_str.ensures, c.in_ok-relative.ensures) at c.in_ok-from_folder.ensures.asks)
    c.in-Err-from_folder.is
    (rw (later, same) at c.inner_request-3.ensures.asks))
