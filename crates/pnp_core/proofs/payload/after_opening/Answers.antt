use Rattle.pnp_core.specs.Payload.{after_call}
use Rattle.pnp_core.proofs.payload.after_opening.Goals as goal

pub returns-in-None : goal.returns-in-None
unfolding after_call
returns-in-None c = let none = rw c.in-None.is at c.after_constant.ensures in rw (← none) c.after.ensures
