use Rattle.std.proofs.Common.{◌≡◌, take}
use Rattle.resolve_stack.proofs.copies.copies_of_locators.Given as goal

abbrev pub invariant-loop-locator : goal.invariant-loop-locator
invariant-loop-locator l = l.copies.items ≡ take l.locator-index l.locators
