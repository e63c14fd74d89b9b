use Rattle.std.proofs.Common.{refl}
use Rattle.json_reading.proofs.Readings.{reads_stops, reads_then, some_then}
use Rattle.document_core.specs.Given.{request_of}
use Rattle.document_core.proofs.given.GivenRequestFromJson.from_json.Goals as goal

pub returns-in_err-importer : goal.returns-in_err-importer
unfolding request_of
returns-in_err-importer g c = reads_stops _ _ _ _ c.from_residual.ensures.1 c.in_err-importer.ensures

pub returns-in_err-specifier : goal.returns-in_err-specifier
unfolding request_of
returns-in_err-specifier g c =
    reads_then _ _ _ c.in_ok-importer.ensures
    (reads_stops _ _ _ _ c.from_residual-in_err-specifier.ensures.1 c.in_err-specifier.ensures)

pub returns : goal.returns
unfolding request_of
returns g c = some_then _ _ c.in_ok-importer.ensures (some_then _ _ c.in_ok-specifier.ensures refl)
