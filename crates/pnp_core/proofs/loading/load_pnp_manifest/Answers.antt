use Rattle.std.proofs.Common.{Err, refl, ap}
use Rattle.tree_core.proofs.Asking.{asks_then, asks_done, asks_fails_in, asks_starved_in}
use Rattle.pnp_core.specs.Loading.{told_loading}
use Rattle.pnp_core.specs.Refusal.{pnp, NoManifest}
use Rattle.pnp_core.proofs.loading.load_pnp_manifest.Goals as goal

pub returns-in-Ok-clause-asks : goal.returns-in-Ok-clause-asks
unfolding told_loading
returns-in-Ok-clause-asks g c = asks_then _ (rw c.in_ok-path.ensures at c.in-Ok.ensures.asks) (asks_done refl)

pub returns-in_err-cause-in-Err-clause-asks : goal.returns-in_err-cause-in-Err-clause-asks
unfolding told_loading
returns-in_err-cause-in-Err-clause-asks g c =
    asks_fails_in pnp _ _ c.from_residual-in_err-cause-in-Err.ensures.1
    (rw (c.in_ok-path.ensures, ← c.in_err-cause-in-Err.ensures) at c.in-Err.ensures.asks)

pub returns-in_err-failed-in-Err-clause-asks : goal.returns-in_err-failed-in-Err-clause-asks
unfolding told_loading
returns-in_err-failed-in-Err-clause-asks g c =
    asks_then _ (rw (c.in_ok-path.ensures, ← c.in_ok-cause-in-Err.ensures) at c.in-Err.ensures.asks)
    (asks_starved_in pnp _ c.from_residual-in_err-failed-in-Err.ensures.1)

pub returns-clause-asks : goal.returns-clause-asks
unfolding told_loading
returns-clause-asks g c =
    asks_then _ (rw (c.in_ok-path.ensures, ← c.in_ok-cause-in-Err.ensures) at c.in-Err.ensures.asks)
    (asks_done (ap (λ f. Err (NoManifest f)) (rw c.in_ok-path.ensures at c.in_ok-failed-in-Err.ensures)))
