use Rattle.yarn_lock_parser.proofs.SliceLocks.{slices_if_ok}
use Rattle.yarn_lock_parser.proofs.lockfile.parse_str.Goals as goal

pub returns-clause-slices : goal.returns-clause-slices
returns-clause-slices c = slices_if_ok c.args.content.now c.lock_of.result c.lock_of.ensures.read
