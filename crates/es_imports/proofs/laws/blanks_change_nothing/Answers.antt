use Rattle.es_imports.proofs.Formed.{blanks_nothing as law}
use Rattle.es_imports.proofs.laws.blanks_change_nothing.Goals as goal

pub returns : goal.returns
returns c = law
