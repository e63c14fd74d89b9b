use Rattle.std.proofs.Common.{◌-◌, length}
use Rattle.es_imports.specs.Literals.{pattern_part}
use Rattle.es_imports.proofs.Running.{Running}
use Rattle.es_imports.proofs.literal.pattern_body_len.Given as goal

abbrev pub invariant-loop-at : goal.invariant-loop-at
invariant-loop-at l = Running pattern_part l.text l.at

abbrev pub decreases-loop-at : goal.decreases-loop-at
decreases-loop-at l = length l.text - l.at
