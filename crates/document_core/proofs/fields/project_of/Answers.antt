use Rattle.std.proofs.Common.{refl}
use Rattle.document_core.specs.Fields.{project_fields_of}
use Rattle.document_core.proofs.Causes.{meets_raised, meets_stops, meets_then, ok_then}
use Rattle.document_core.proofs.fields.project_of.Goals as goal

pub returns-in_err-settings : goal.returns-in_err-settings
unfolding project_fields_of
returns-in_err-settings g c = meets_raised _ _ _ c.from_residual.ensures.1 (meets_stops _ _ _ c.in_err-settings.ensures)

pub returns-in_err-files : goal.returns-in_err-files
unfolding project_fields_of
returns-in_err-files g c =
    meets_then _ _ _ _ c.in_ok-settings.ensures
    (meets_raised _ _ _ c.from_residual-in_err-files.ensures.1 (meets_stops _ _ _ c.in_err-files.ensures))

pub returns : goal.returns
unfolding project_fields_of
returns g c =
    ok_then _ _ c.in_ok-settings.ensures
    (ok_then _ _ c.in_ok-files.ensures refl)
