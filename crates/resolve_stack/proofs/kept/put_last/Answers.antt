use Rattle.resolve_stack.proofs.KnownFiles.{last-pushed}
use Rattle.resolve_stack.proofs.kept.put_last.Goals as goal

pub returns : goal.returns
returns c = last-pushed c.make_room.new.latest.items _ c.args.read c.in_ok-push.ensures.items
