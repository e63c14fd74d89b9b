use Rattle.std.proofs.Common.{◌≡◌, ◌++◌}
use Rattle.es_pattern.specs.Program.{copies}
use Rattle.es_pattern.proofs.program.repeat.Given as goal

abbrev pub invariant-loop-time : goal.invariant-loop-time
invariant-loop-time l = l.steps.items ≡ l.initial.steps.items ++ copies l._time l.part
