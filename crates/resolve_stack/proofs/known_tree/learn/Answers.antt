use Rattle.resolve_stack.proofs.known_tree.learn.Goals as goal

pub loop-read-preserved : goal.loop-read-preserved
loop-read-preserved c = λ t agrees h. c.note.ensures t agrees (c.loop-read.invariant t agrees h)
