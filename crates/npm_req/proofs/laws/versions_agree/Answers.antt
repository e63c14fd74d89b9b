use Rattle.npm_req.proofs.Grammars.{versions-agree}
use Rattle.npm_req.proofs.laws.versions_agree.Goals as goal

pub returns : goal.returns
returns c = versions-agree
