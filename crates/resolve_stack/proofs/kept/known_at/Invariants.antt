use Rattle.std.proofs.Common.{◌≡◌, drop}
use Rattle.resolve_stack.specs.Known.{known_at}
use Rattle.resolve_stack.proofs.kept.known_at.Given as goal

abbrev pub invariant-loop-read : goal.invariant-loop-read
invariant-loop-read l = known_at l.known l.path ≡ known_at (drop l.read-index l.known) l.path
