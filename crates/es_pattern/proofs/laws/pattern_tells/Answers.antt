use Rattle.es_pattern.proofs.Accepting.{pattern_tells as law}
use Rattle.es_pattern.proofs.laws.pattern_tells.Goals as goal

pub returns : goal.returns
returns c = law
