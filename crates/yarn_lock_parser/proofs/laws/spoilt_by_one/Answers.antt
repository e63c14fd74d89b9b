use Rattle.yarn_lock_parser.proofs.FlagLaws.{spoilt-by_one}
use Rattle.yarn_lock_parser.proofs.laws.spoilt_by_one.Goals as goal

pub returns : goal.returns
returns c = spoilt-by_one
