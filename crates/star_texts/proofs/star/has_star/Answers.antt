use Rattle.star_texts.proofs.Stars.{has_star-contains}
use Rattle.star_texts.proofs.star.has_star.Goals as goal

pub returns : goal.returns
returns c = has_star-contains c.args.text.now c.contains.result c.contains.ensures.cases
