use Rattle.npm_req.proofs.RangeGrammars.{ranges-agree}
use Rattle.npm_req.proofs.laws.ranges_agree.Goals as goal

pub returns : goal.returns
returns c = ranges-agree
