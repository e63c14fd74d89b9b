use Rattle.std.proofs.Common.{◌-◌, length}
use Rattle.es_imports.specs.Parts.{part_len}
use Rattle.es_imports.proofs.Running.{Running}
use Rattle.es_imports.proofs.run.run_len.Given as goal

abbrev pub invariant-loop-part : goal.invariant-loop-part
invariant-loop-part l = Running (part_len l.part) l.text l.at

abbrev pub decreases-loop-part : goal.decreases-loop-part
decreases-loop-part l = length l.text - l.at
