use Rattle.session_core.specs.Index.{OthersStayNoted}
use Rattle.session_core.proofs.index.forget_paths.Given as goal

abbrev pub invariant-loop-step : goal.invariant-loop-step
invariant-loop-step l = OthersStayNoted l.number l.initial.noted.keys l.noted.keys
