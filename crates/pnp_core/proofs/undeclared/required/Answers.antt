use Rattle.std.proofs.Common.{append_assoc}
use Rattle.pnp_core.specs.Wording.{required}
use Rattle.pnp_core.proofs.undeclared.required.Goals as goal

pub returns : goal.returns
unfolding required
returns c = simp append_assoc (rw c.in_ok-via.ensures at c.in_ok-text.ensures.ok)
