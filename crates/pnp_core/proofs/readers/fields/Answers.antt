use Rattle.std.proofs.Common.{refl}
use Rattle.pnp_core.specs.ManifestReading.{fields_in}
use Rattle.json_reading.proofs.Readings.{reads_stops, reads_then, some_then}
use Rattle.pnp_core.proofs.readers.fields.Goals as goal

pub with_registry-requires : goal.with_registry-requires
with_registry-requires g c = c.in_ok-manifest.ensures.folder

pub returns-in_err-manifest : goal.returns-in_err-manifest
unfolding fields_in
returns-in_err-manifest g c = reads_stops _ _ _ _ c.from_residual.ensures.1 c.in_err-manifest.ensures.read

pub returns-in_err-registry : goal.returns-in_err-registry
unfolding fields_in
returns-in_err-registry g c = reads_then _ _ _ c.in_ok-manifest.ensures.read
    (reads_stops _ _ _ _ c.from_residual-in_err-registry.ensures.1 c.in_err-registry.ensures)

pub returns : goal.returns
unfolding fields_in
returns g c = some_then _ _ c.in_ok-manifest.ensures.read (some_then _ _ c.in_ok-registry.ensures
    (rw (c.with_registry.ensures) refl))
