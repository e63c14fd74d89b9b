use Rattle.lock_checks.proofs.LockedBindings.{passes_as_locked as law}
use Rattle.lock_checks.proofs.laws.passes_as_locked.Goals as goal

pub returns : goal.returns
returns c = law
