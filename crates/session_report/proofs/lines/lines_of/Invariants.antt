use Rattle.std.proofs.Common.{◌≡◌, ◌++◌, drop, string_bytes}
use Rattle.session_core.specs.SessionView.{state_of}
use Rattle.session_report.specs.Lines.{step_lines}
use Rattle.session_report.proofs.lines.lines_of.Given as goal

-- the lines so far stand in front of those of the steps that are left
abbrev pub invariant-loop-step : goal.invariant-loop-step
invariant-loop-step l =
    step_lines (state_of l.fn.session) l.steps
    ≡ string_bytes l.lines ++ step_lines (state_of l.session) (drop l.step-index l.steps)
