use Rattle.es_imports.proofs.Joining.{pieces_join as law}
use Rattle.es_imports.proofs.laws.pieces_are_the_text.Goals as goal

pub returns : goal.returns
returns c = law
