use Rattle.resolve_stack.proofs.KnownFiles.{known-pushed}
use Rattle.resolve_stack.proofs.kept.put_known.Goals as goal

pub returns : goal.returns
returns c = λ t loaded h.
    known-pushed t _ _ c.args.read _ c.push-put.ensures.items (c.make_room.ensures t h) loaded
