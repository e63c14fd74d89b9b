use Rattle.npm_req.proofs.Grammars.{semvers-agree}
use Rattle.npm_req.proofs.laws.semvers_agree.Goals as goal

pub returns : goal.returns
returns c = semvers-agree
