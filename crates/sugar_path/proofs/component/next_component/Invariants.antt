use Rattle.std.proofs.Common.{◌≡◌, length}
use Rattle.sugar_path.specs.Component.{pieces}
use Rattle.sugar_path.specs.ComponentTypes.{parts_if}
use Rattle.sugar_path.proofs.component.next_component.Given as goal

-- only silent parts were passed over
abbrev pub invariant-loop-rest : goal.invariant-loop-rest
invariant-loop-rest l = pieces (parts_if l.rest) ≡ pieces (parts_if l.fn.left)

abbrev pub decreases-loop-rest : goal.decreases-loop-rest
decreases-loop-rest l = length (parts_if l.rest)
