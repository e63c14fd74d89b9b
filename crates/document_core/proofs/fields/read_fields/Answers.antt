use Rattle.std.proofs.Common.{refl}
use Rattle.document_core.specs.Fields.{fields_of}
use Rattle.document_core.proofs.Causes.{meets_raised, meets_stops, meets_then, ok_then}
use Rattle.document_core.proofs.fields.read_fields.Goals as goal

pub returns-in_err-settings : goal.returns-in_err-settings
unfolding fields_of
returns-in_err-settings g c = meets_raised _ _ _ c.from_residual.ensures.1 (meets_stops _ _ _ c.in_err-settings.ensures)

pub returns-in_err-requests : goal.returns-in_err-requests
unfolding fields_of
returns-in_err-requests g c =
    meets_then _ _ _ _ c.in_ok-settings.ensures
    (meets_raised _ _ _ c.from_residual-in_err-requests.ensures.1 (meets_stops _ _ _ c.in_err-requests.ensures))

pub returns : goal.returns
unfolding fields_of
returns g c = ok_then _ _ c.in_ok-settings.ensures (ok_then _ _ c.in_ok-requests.ensures refl)
