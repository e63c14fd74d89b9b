use Rattle.yarn_lock_parser.proofs.EmptyLines.{entries-end}
use Rattle.yarn_lock_parser.proofs.laws.entries_end_with_empty_lines.Goals as goal

pub returns : goal.returns
returns c = entries-end
