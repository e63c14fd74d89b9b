use Rattle.std.proofs.Common.{refl}
use Rattle.json_reading.proofs.Readings.{reads_stops, reads_then, some_then}
use Rattle.trail_bundle.specs.LineReading.{request_of}
use Rattle.trail_bundle.proofs.line_reading.request_from.Goals as goal

pub returns-in_err-importer : goal.returns-in_err-importer
unfolding request_of
returns-in_err-importer c = reads_stops _ _ _ _ c.from_residual.ensures.1 c.in_err-importer.ensures

pub returns-in_err-specifier : goal.returns-in_err-specifier
unfolding request_of
returns-in_err-specifier c =
    reads_then _ _ _ c.in_ok-importer.ensures
    (reads_stops _ _ _ _ c.from_residual-in_err-specifier.ensures.1 c.in_err-specifier.ensures)

pub returns : goal.returns
unfolding request_of
returns c = some_then _ _ c.in_ok-importer.ensures (some_then _ _ c.in_ok-specifier.ensures refl)
