use Rattle.std.proofs.Common.{append_assoc}
use Rattle.pnp_core.specs.Wording.{ambiguous}
use Rattle.pnp_core.proofs.undeclared.ambiguous.Goals as goal

pub returns : goal.returns
unfolding ambiguous
returns c = simp append_assoc c.in_ok-text.ensures.ok
