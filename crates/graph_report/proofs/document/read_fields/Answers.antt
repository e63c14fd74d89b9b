use Rattle.std.proofs.Common.{refl}
use Rattle.document_core.proofs.Causes.{meets_raised, meets_stops, meets_then, ok_then}
use Rattle.graph_report.specs.Given.{fields_of}
use Rattle.graph_report.proofs.document.read_fields.Goals as goal

pub returns-in_err-project-clause-fields : goal.returns-in_err-project-clause-fields
unfolding fields_of
returns-in_err-project-clause-fields c =
    meets_raised _ _ _ c.from_residual.ensures.1 (meets_stops _ _ _ c.in_err-project.ensures)

pub returns-in_err-entries-clause-fields : goal.returns-in_err-entries-clause-fields
unfolding fields_of
returns-in_err-entries-clause-fields c =
    meets_then _ _ _ _ c.in_ok-project.ensures
    (meets_raised _ _ _ c.from_residual-in_err-entries.ensures.1 (meets_stops _ _ _ c.in_err-entries.ensures.entries))

pub returns-in_err-capacity-clause-fields : goal.returns-in_err-capacity-clause-fields
unfolding fields_of
returns-in_err-capacity-clause-fields c =
    meets_then _ _ _ _ c.in_ok-project.ensures
    (meets_then _ _ _ _ c.in_ok-entries.ensures.entries
    (meets_raised _ _ _ c.from_residual-in_err-capacity.ensures.1
    (meets_stops _ _ _ c.in_err-capacity.ensures.capacity)))

pub returns-in_err-steps-clause-fields : goal.returns-in_err-steps-clause-fields
unfolding fields_of
returns-in_err-steps-clause-fields c =
    meets_then _ _ _ _ c.in_ok-project.ensures
    (meets_then _ _ _ _ c.in_ok-entries.ensures.entries
    (meets_then _ _ _ _ c.in_ok-capacity.ensures.capacity
    (meets_raised _ _ _ c.from_residual-in_err-steps.ensures.1 (meets_stops _ _ _ c.in_err-steps.ensures))))

pub returns-in_err-scanner-clause-fields : goal.returns-in_err-scanner-clause-fields
unfolding fields_of
returns-in_err-scanner-clause-fields c =
    meets_then _ _ _ _ c.in_ok-project.ensures
    (meets_then _ _ _ _ c.in_ok-entries.ensures.entries
    (meets_then _ _ _ _ c.in_ok-capacity.ensures.capacity
    (meets_then _ _ _ _ c.in_ok-steps.ensures
    (meets_raised _ _ _ c.from_residual-in_err-scanner.ensures.1 (meets_stops _ _ _ c.in_err-scanner.ensures)))))

pub returns-clause-fields : goal.returns-clause-fields
unfolding fields_of
returns-clause-fields c =
    ok_then _ _ c.in_ok-project.ensures
    (ok_then _ _ c.in_ok-entries.ensures.entries
    (ok_then _ _ c.in_ok-capacity.ensures.capacity
    (ok_then _ _ c.in_ok-steps.ensures
    (ok_then _ _ c.in_ok-scanner.ensures refl))))
