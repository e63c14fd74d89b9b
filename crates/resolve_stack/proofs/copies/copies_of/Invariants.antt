use Rattle.std.proofs.Common.{◌≡◌, take}
use Rattle.resolve_stack.proofs.copies.copies_of.Given as goal

abbrev pub invariant-loop-refusal : goal.invariant-loop-refusal
invariant-loop-refusal l = l.copies.items ≡ take l.refusal-index l.refusals
