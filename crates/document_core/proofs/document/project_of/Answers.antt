use Rattle.document_core.proofs.Documents.{project_made, project_stops}
use Rattle.document_core.proofs.document.project_of.Goals as goal

pub returns-in_err-new : goal.returns-in_err-new
returns-in_err-new c = project_stops _ _ _ c.from_residual.ensures.1 c.in_err-new.ensures.fault

pub returns : goal.returns
returns c = project_made _ _ c.in_ok-new.ensures.ok
