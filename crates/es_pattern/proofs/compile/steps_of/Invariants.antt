use Rattle.std.proofs.Common.{◌≡◌, take}
use Rattle.es_pattern.specs.declared.step.Direction.TheVariants.{Forward}
use Rattle.es_pattern.specs.Compiled.{codes, stack_of}
use Rattle.es_pattern.proofs.compile.steps_of.Given as goal

abbrev pub invariant-loop-number : goal.invariant-loop-number
invariant-loop-number l = stack_of l.programs.items ≡ codes Forward (take l.number l.pieces)
