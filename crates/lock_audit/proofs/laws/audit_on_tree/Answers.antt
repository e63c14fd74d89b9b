use Rattle.lock_audit.proofs.OnTrees.{audit_on_tree as law}
use Rattle.lock_audit.proofs.laws.audit_on_tree.Goals as goal

pub returns : goal.returns
returns c = law
