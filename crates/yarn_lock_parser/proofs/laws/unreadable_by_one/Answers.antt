use Rattle.yarn_lock_parser.proofs.FlagLaws.{unreadable-by_one}
use Rattle.yarn_lock_parser.proofs.laws.unreadable_by_one.Goals as goal

pub returns : goal.returns
returns c = unreadable-by_one
