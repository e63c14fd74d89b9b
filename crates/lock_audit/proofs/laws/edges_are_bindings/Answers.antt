use Rattle.lock_audit.proofs.OwnEdges.{edges_are_bindings as law}
use Rattle.lock_audit.proofs.laws.edges_are_bindings.Goals as goal

pub returns : goal.returns
returns c = law
