use Rattle.std.proofs.Common.{refl}
use Rattle.pnp_core.specs.ManifestReading.{package_in}
use Rattle.json_reading.proofs.Readings.{reads_stops, reads_then, some_then}
use Rattle.pnp_core.proofs.readers.PackageInformationFromJson.from_json.Goals as goal

pub returns-in_err-package_location : goal.returns-in_err-package_location
unfolding package_in
returns-in_err-package_location g c = reads_stops _ _ _ _ c.from_residual.ensures.1 c.in_err-package_location.ensures

pub returns-in_err-discard_from_lookup : goal.returns-in_err-discard_from_lookup
unfolding package_in
returns-in_err-discard_from_lookup g c = reads_then _ _ _ c.in_ok-package_location.ensures
    (reads_stops _ _ _ _ c.from_residual-in_err-discard_from_lookup.ensures.1 c.in_err-discard_from_lookup.ensures)

pub returns-in_err-dependencies : goal.returns-in_err-dependencies
unfolding package_in
returns-in_err-dependencies g c = reads_then _ _ _ c.in_ok-package_location.ensures
    (reads_then _ _ _ c.in_ok-discard_from_lookup.ensures (reads_stops _ _ _ _
    c.from_residual-in_err-dependencies.ensures.1 c.in_err-dependencies.ensures))

pub returns : goal.returns
unfolding package_in
returns g c = some_then _ _ c.in_ok-package_location.ensures
    (some_then _ _ c.in_ok-discard_from_lookup.ensures (some_then _ _ c.in_ok-dependencies.ensures
    (rw (← c.dependencies.view_is) refl)))
