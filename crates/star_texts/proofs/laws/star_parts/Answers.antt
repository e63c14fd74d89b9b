use Rattle.star_texts.proofs.Stars.{star_parts as law}
use Rattle.star_texts.proofs.laws.star_parts.Goals as goal

pub returns : goal.returns
returns c = law
