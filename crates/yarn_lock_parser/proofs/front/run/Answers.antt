use Rattle.yarn_lock_parser.proofs.Fronts.{cuts}
use Rattle.yarn_lock_parser.proofs.front.run.Goals as goal

pub split_at-requires : goal.split_at-requires
split_at-requires c = rw c.run_len.ensures (cuts c.args.set c.args.text.now c.utf8.text)
