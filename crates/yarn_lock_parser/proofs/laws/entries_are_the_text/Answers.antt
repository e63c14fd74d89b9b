use Rattle.yarn_lock_parser.proofs.Joined.{entries-joined}
use Rattle.yarn_lock_parser.proofs.laws.entries_are_the_text.Goals as goal

pub returns : goal.returns
returns c = entries-joined
