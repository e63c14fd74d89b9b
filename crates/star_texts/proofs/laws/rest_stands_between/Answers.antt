use Rattle.star_texts.proofs.Ends.{rest_stands_between as law}
use Rattle.star_texts.proofs.laws.rest_stands_between.Goals as goal

pub returns : goal.returns
returns c = law
