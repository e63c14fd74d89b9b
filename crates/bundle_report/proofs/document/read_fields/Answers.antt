use Rattle.std.proofs.Common.{refl}
use Rattle.document_core.proofs.Causes.{meets_raised, meets_stops, meets_then, ok_then}
use Rattle.bundle_report.specs.Given.{fields_of}
use Rattle.bundle_report.proofs.document.read_fields.Goals as goal

pub returns-in_err-settings : goal.returns-in_err-settings
unfolding fields_of
returns-in_err-settings c = meets_raised _ _ _ c.from_residual.ensures.1 (meets_stops _ _ _ c.in_err-settings.ensures)

pub returns-in_err-bundle : goal.returns-in_err-bundle
unfolding fields_of
returns-in_err-bundle c =
    meets_then _ _ _ _ c.in_ok-settings.ensures
    (meets_raised _ _ _ c.from_residual-in_err-bundle.ensures.1 (meets_stops _ _ _ c.in_err-bundle.ensures))

pub returns : goal.returns
unfolding fields_of
returns c = ok_then _ _ c.in_ok-settings.ensures (ok_then _ _ c.in_ok-bundle.ensures refl)
