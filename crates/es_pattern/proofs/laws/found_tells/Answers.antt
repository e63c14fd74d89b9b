use Rattle.es_pattern.proofs.Founds.{found_tells as law}
use Rattle.es_pattern.proofs.laws.found_tells.Goals as goal

pub returns : goal.returns
returns c = law
