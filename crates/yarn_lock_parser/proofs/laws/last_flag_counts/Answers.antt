use Rattle.yarn_lock_parser.proofs.FlagLaws.{last_flag-counts}
use Rattle.yarn_lock_parser.proofs.laws.last_flag_counts.Goals as goal

pub returns : goal.returns
returns c = last_flag-counts
