use Rattle.std.proofs.Common.{sym}
use Rattle.lock_audit.proofs.WholeAudits.{audits_none}
use Rattle.lock_audit.proofs.auditing.audit.Goals as goal

pub returns-in-Some-clause-audits : goal.returns-in-Some-clause-audits
returns-in-Some-clause-audits g c = rw (← c.in-Some.ensures) c.audit_over.ensures.audits

pub returns-in-None-clause-audits : goal.returns-in-None-clause-audits
returns-in-None-clause-audits g c = audits_none _ _ _ (sym c.in-None.ensures)
