use Rattle.std.proofs.Common.{refl}
use Rattle.pnp_core.specs.ManifestReading.{locator_in}
use Rattle.json_reading.proofs.Readings.{reads_stops, reads_then, some_then}
use Rattle.pnp_core.proofs.readers.PackageLocatorFromJson.from_json.Goals as goal

pub returns-in_err-name : goal.returns-in_err-name
unfolding locator_in
returns-in_err-name g c = reads_stops _ _ _ _ c.from_residual.ensures.1 c.in_err-name.ensures

pub returns-in_err-reference : goal.returns-in_err-reference
unfolding locator_in
returns-in_err-reference g c = reads_then _ _ _ c.in_ok-name.ensures
    (reads_stops _ _ _ _ c.from_residual-in_err-reference.ensures.1 c.in_err-reference.ensures)

pub returns : goal.returns
unfolding locator_in
returns g c = some_then _ _ c.in_ok-name.ensures (some_then _ _ c.in_ok-reference.ensures (refl))
