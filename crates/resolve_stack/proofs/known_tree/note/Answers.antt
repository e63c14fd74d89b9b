use Rattle.resolve_stack.proofs.known_tree.note.Goals as goal

pub returns-then-is_replied : goal.returns-then-is_replied
returns-then-is_replied c = λ t agrees h.
    c.put_known.ensures t (c.is_replied.ensures c.if-is_replied.true t agrees) h
