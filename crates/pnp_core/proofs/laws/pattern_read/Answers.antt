use Rattle.pnp_core.proofs.PatternReadings.{pattern_read as law}
use Rattle.pnp_core.proofs.laws.pattern_read.Goals as goal

pub returns : goal.returns
returns c = law
