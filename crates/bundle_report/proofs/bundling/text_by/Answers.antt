use Rattle.document_core.proofs.Causes.{meets_raised}
use Rattle.bundle_report.proofs.Bundled.{text_refused, text_told}
use Rattle.bundle_report.proofs.bundling.text_by.Goals as goal

pub returns-in_err-project : goal.returns-in_err-project
returns-in_err-project c = meets_raised _ _ _ c.from_residual.ensures.1 (text_refused _ _ _ _ c.in_err-project.ensures)

pub returns : goal.returns
returns c =
    text_told _ _ _ _ _ _ c.in_ok-project.ensures (rw c.of-tree.ensures at c.in_ok-bundle.ensures)
    c.in_ok-encode.ensures
