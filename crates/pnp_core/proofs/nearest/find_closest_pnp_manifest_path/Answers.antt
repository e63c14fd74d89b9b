use Rattle.std.proofs.Common.{refl, ap}
use Rattle.std.specs.Prelude.{Some, Ok}
use Rattle.tree_core.proofs.Asking.{asks_as, asks_done, asks_fails_in, asks_starved_in}
use Rattle.pnp_core.specs.Nearest.{nearest_text}
use Rattle.pnp_core.specs.Refusal.{pnp}
use Rattle.pnp_core.proofs.nearest.find_closest_pnp_manifest_path.Goals as goal

pub returns-in_err-manifest-clause-asks : goal.returns-in_err-manifest-clause-asks
unfolding nearest_text
returns-in_err-manifest-clause-asks g c =
    let asked = rw c.in_ok-path.ensures at c.in_err-manifest.ensures in
    asks_fails_in pnp _ _ c.from_residual-in_err-manifest.ensures.1 asked

pub returns-in_default-clause-asks : goal.returns-in_default-clause-asks
unfolding nearest_text
returns-in_default-clause-asks g c =
    let asked = rw c.in_ok-path.ensures at c.in_ok-manifest.ensures in
    asks_as _ asked c.in_default.is (asks_done refl)

pub returns-in_err-text-clause-asks : goal.returns-in_err-text-clause-asks
unfolding nearest_text
returns-in_err-text-clause-asks g c =
    let asked = rw c.in_ok-path.ensures at c.in_ok-manifest.ensures in
    asks_as _ asked c.in-Some.is (asks_starved_in pnp _ c.from_residual-in_err-text.ensures.1)

pub returns-clause-asks : goal.returns-clause-asks
unfolding nearest_text
returns-clause-asks g c =
    let asked = rw c.in_ok-path.ensures at c.in_ok-manifest.ensures in
    asks_as _ asked c.in-Some.is (asks_done (ap (λ t. Ok (Some t)) c.in_ok-text.ensures.text))
