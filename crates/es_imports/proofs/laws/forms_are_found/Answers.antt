use Rattle.es_imports.proofs.Formed.{forms_found as law}
use Rattle.es_imports.proofs.laws.forms_are_found.Goals as goal

pub returns : goal.returns
returns c = law
