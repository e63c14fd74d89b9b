use Rattle.lock_audit.proofs.Found.{findings_are_refusals as law}
use Rattle.lock_audit.proofs.laws.findings_are_refusals.Goals as goal

pub returns : goal.returns
returns c = law
