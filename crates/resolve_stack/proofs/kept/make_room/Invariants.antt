use Rattle.resolve_stack.specs.Known.{StaysKnown}
use Rattle.resolve_stack.proofs.kept.make_room.Given as goal

-- those that are left are known
abbrev pub invariant-loop : goal.invariant-loop
invariant-loop l = StaysKnown l.fn.latest.items l.latest.items
