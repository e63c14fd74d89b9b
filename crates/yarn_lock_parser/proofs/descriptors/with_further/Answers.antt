use Rattle.std.proofs.Common.{◌∷◌, [], sym}
use Rattle.yarn_lock_parser.proofs.Parted.{found_at-end}
use Rattle.yarn_lock_parser.proofs.descriptors.with_further.Goals as goal

pub returns-in-None : goal.returns-in-None
returns-in-None c = sym (found_at-end (c.args.first ∷ []) c.args.list.now (sym c.in-None.ensures))
