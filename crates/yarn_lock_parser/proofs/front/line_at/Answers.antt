use Rattle.std.proofs.Common.{lit<}
use Rattle.yarn_lock_parser.specs.Front.{line_at}
use Rattle.yarn_lock_parser.proofs.Splits.{split-around}
use Rattle.yarn_lock_parser.proofs.front.line_at.Goals as goal

pub returns : goal.returns
unfolding line_at
returns c = split-around 10 c.args.text.now c.split_once.result c.split_once.ensures.cases (lit< tt)
