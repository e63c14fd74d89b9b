use Rattle.std.proofs.Common.{sym}
use Rattle.yarn_lock_parser.proofs.Rests.{some_run-run, some_run-digits}
use Rattle.yarn_lock_parser.proofs.metadata.number_at.Goals as goal

pub version_number-requires-clause-some : goal.version_number-requires-clause-some
version_number-requires-clause-some c = (some_run-run _ _ _ (sym c.in_ok-digits.ensures)).0

pub version_number-requires-clause-all : goal.version_number-requires-clause-all
version_number-requires-clause-all c = some_run-digits _ _ (sym c.in_ok-digits.ensures)
