use Rattle.std.proofs.Common.{refl, sym, ap, Err}
use Rattle.std.specs.Prelude.{ok_or}
use Rattle.tree_core.specs.declared.resolve_error.ResolveError.TheVariants.{Refused}
use Rattle.tree_core.specs.Resolving.{resolving}
use Rattle.tree_core.proofs.Asking.{after_decided, asks_done, asks_stops, asks_then, stops_decided}
use Rattle.lock_checks.specs.declared.fault.EdgeFault.TheVariants.{NotInRegistry}
use Rattle.lock_checks.specs.Checks.{checked_location}
use Rattle.lock_checks.specs.Borrowed.{borrowed}
use Rattle.lock_checks.proofs.Bindings.{borrowed_err}
use Rattle.lock_checks.proofs.binding.checked_location.Goals as goal

pub returns-in_default-clause-asks : goal.returns-in_default-clause-asks
unfolding checked_location
returns-in_default-clause-asks g c = stops_decided _ _ (Refused NotInRegistry) (Err (Refused NotInRegistry)) refl
    (ap (λ o. ok_or o NotInRegistry) (sym c.in_default.ensures))

pub returns-in_err-check_by-clause-asks : goal.returns-in_err-check_by-clause-asks
unfolding checked_location
returns-in_err-check_by-clause-asks g c =
    after_decided _ (ap (λ o. ok_or o NotInRegistry) (sym c.in-Some.ensures))
    (asks_stops resolving _ _ (borrowed c.from_residual.result) (borrowed_err _ _ c.from_residual.ensures.1)
    c.in_err-check_by.ensures)

pub returns-clause-asks : goal.returns-clause-asks
unfolding checked_location
returns-clause-asks g c =
    after_decided _ (ap (λ o. ok_or o NotInRegistry) (sym c.in-Some.ensures))
    (asks_then _ c.in_ok-check_by.ensures (asks_done refl))
