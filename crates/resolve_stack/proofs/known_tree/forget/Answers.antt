use Rattle.std.proofs.Common.{sym, ◌∙◌}
use Rattle.resolve_stack.proofs.KnownFiles.{known-beside}
use Rattle.resolve_stack.proofs.known_tree.forget.Goals as goal

pub returns-else-is_known : goal.returns-else-is_known
returns-else-is_known c = λ t u same h.
    known-beside t u c.args.path.now c.args.known.now.items
    (rw c.as_slice.ensures.value at (sym c.is_known.ensures ∙ c.if-is_known.false)) same h
