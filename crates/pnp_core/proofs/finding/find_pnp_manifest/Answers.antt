use Rattle.std.proofs.Common.{refl}
use Rattle.sugar_path.proofs.Parts.{path_in-text_of}
use Rattle.tree_core.proofs.Asking.{asks_as, asks_done, asks_fails_in, asks_stops, asks_then}
use Rattle.pnp_core.specs.Finding.{finding, in_file}
use Rattle.pnp_core.specs.Refusal.{pnp}
use Rattle.pnp_core.proofs.finding.find_pnp_manifest.Goals as goal

pub returns-in_err-file-clause-asks : goal.returns-in_err-file-clause-asks
unfolding finding
returns-in_err-file-clause-asks g c =
    let asked = rw c.in_ok-path.ensures at c.in_err-file.ensures in
    asks_fails_in pnp in_file _ c.from_residual-in_err-file.ensures.1 asked

pub returns-in_default-clause-asks : goal.returns-in_default-clause-asks
unfolding finding
returns-in_default-clause-asks g c =
    let asked = rw c.in_ok-path.ensures at c.in_ok-file.ensures in
    asks_as in_file asked c.in_default.is (asks_done refl)

pub returns-in_err-manifest-clause-asks : goal.returns-in_err-manifest-clause-asks
unfolding finding
returns-in_err-manifest-clause-asks g c =
    let asked = rw c.in_ok-path.ensures at c.in_ok-file.ensures in
    let loaded =
    rw (c.as_str.ensures.text, path_in-text_of _ c.as_str.ensures.names) at c.in_err-manifest.ensures.asks in
    asks_as in_file asked c.in-Some.is (asks_stops pnp _ _ _ c.from_residual-in_err-manifest.ensures.1 loaded)

pub returns-clause-asks : goal.returns-clause-asks
unfolding finding
returns-clause-asks g c =
    let asked = rw c.in_ok-path.ensures at c.in_ok-file.ensures in
    let loaded =
    rw (c.as_str.ensures.text, path_in-text_of _ c.as_str.ensures.names) at c.in_ok-manifest.ensures.asks in
    asks_as in_file asked c.in-Some.is (asks_then _ loaded (asks_done refl))
