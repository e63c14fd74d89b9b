use Rattle.tree_core.specs.Tree.{Files, Agrees}
use Rattle.resolve_stack.specs.Known.{AreKnownOn}
use Rattle.resolve_stack.proofs.known_tree.learn.Given as goal

abbrev pub invariant-loop-read : goal.invariant-loop-read
invariant-loop-read l = (t : Files) → Agrees t l.trail → AreKnownOn t l.fn.known.items → AreKnownOn t l.known.items
