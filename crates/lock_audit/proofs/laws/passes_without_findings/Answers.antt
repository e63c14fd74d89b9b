use Rattle.lock_audit.proofs.Found.{passes_without_findings as law}
use Rattle.lock_audit.proofs.laws.passes_without_findings.Goals as goal

pub returns : goal.returns
returns c = law
