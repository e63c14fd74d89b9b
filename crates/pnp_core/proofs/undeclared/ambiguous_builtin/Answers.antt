use Rattle.std.proofs.Common.{append_assoc}
use Rattle.pnp_core.specs.Wording.{ambiguous_builtin}
use Rattle.pnp_core.proofs.undeclared.ambiguous_builtin.Goals as goal

pub returns : goal.returns
unfolding ambiguous_builtin
returns c = simp append_assoc c.in_ok-text.ensures.ok
