use Rattle.resolve_stack.proofs.kept.make_room.Goals as goal

pub loop-preserved : goal.loop-preserved
loop-preserved c = λ t h. c.drop_first.ensures t (c.loop.invariant t h)
