use Rattle.star_texts.proofs.Replacements.{replaced_reads_back as law}
use Rattle.star_texts.proofs.laws.replaced_reads_back.Goals as goal

pub returns : goal.returns
returns c = law
