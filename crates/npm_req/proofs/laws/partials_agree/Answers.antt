use Rattle.npm_req.proofs.PartGrammars.{partials-agree}
use Rattle.npm_req.proofs.laws.partials_agree.Goals as goal

pub returns : goal.returns
returns c = partials-agree
