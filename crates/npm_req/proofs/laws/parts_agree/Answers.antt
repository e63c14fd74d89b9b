use Rattle.npm_req.proofs.PartGrammars.{parts-agree}
use Rattle.npm_req.proofs.laws.parts_agree.Goals as goal

pub returns : goal.returns
returns c = parts-agree
