use Rattle.std.proofs.Common.{Ok, refl}
use Rattle.tree_core.specs.Plan.{Done}
use Rattle.tree_core.specs.Resolving.{resolving}
use Rattle.tree_core.proofs.Asking.{asks_done, asks_fails_in, asks_starved_in, asks_stops, asks_then}
use Rattle.lock_audit.specs.Audit.{audit_by}
use Rattle.lock_audit.proofs.auditing.audit_at.Goals as goal

pub returns-in_err-path : goal.returns-in_err-path
returns-in_err-path g c = asks_starved_in resolving _ c.from_residual.ensures.1

pub returns-in_err-manifest : goal.returns-in_err-manifest
unfolding audit_by
returns-in_err-manifest g c = asks_stops resolving _ _ _ c.from_residual-in_err-manifest.ensures.1
    (rw c.in_ok-path.ensures at c.in_err-manifest.ensures.asks)

pub returns-in_err-audit_of : goal.returns-in_err-audit_of
unfolding audit_by
returns-in_err-audit_of g c =
    asks_then _ (rw c.in_ok-path.ensures at c.in_ok-manifest.ensures.asks)
    (asks_fails_in resolving (λ audit. Done (Ok audit)) _ c.from_residual-in_err-audit_of.ensures.1
    c.in_err-audit_of.ensures)

pub returns : goal.returns
unfolding audit_by
returns g c =
    asks_then _ (rw c.in_ok-path.ensures at c.in_ok-manifest.ensures.asks)
    (asks_then _ c.in_ok-audit_of.ensures (asks_done refl))
