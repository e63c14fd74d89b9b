use Rattle.yarn_lock_parser.proofs.Fronts.{cuts_at_rest}
use Rattle.yarn_lock_parser.proofs.front.front.Goals as goal

pub split_at-requires : goal.split_at-requires
split_at-requires c = cuts_at_rest c.args.text.now c.args.rest.now c.requires c.utf8.rest
