use Rattle.std.proofs.Common.{◌≡◌, take}
use Rattle.es_pattern.specs.declared.step.Direction.TheVariants.{Backward}
use Rattle.es_pattern.specs.Compiled.{codes, stack_of}
use Rattle.es_pattern.proofs.Compiling.{Parting}
use Rattle.es_pattern.proofs.compile.lookaheads_of.Given as goal

abbrev pub invariant-loop-number : goal.invariant-loop-number
invariant-loop-number l =
    (stack_of l.programs.items ≡ codes Backward (take l.number l.pieces)) × Parting l.pieces l.number l.lookaheads.items
