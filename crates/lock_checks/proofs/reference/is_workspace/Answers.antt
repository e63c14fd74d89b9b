use Rattle.std.proofs.Common.{rules}
use Rattle.lock_checks.proofs.reference.is_workspace.Goals as goal

pub returns : goal.returns
returns c = rw (← c.plain_reference.ensures) (search rules)
