use Rattle.std.proofs.Common.{rules}
use Rattle.star_texts.proofs.Replacements.{replaced-told}
use Rattle.star_texts.proofs.star.replaced.Goals as goal

pub returns : goal.returns
returns c = search (rules, replaced-told)
