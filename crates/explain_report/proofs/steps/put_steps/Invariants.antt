use Rattle.std.proofs.Common.{◌≡◌, ◌++◌, [], string_bytes}
use denote.Shadow.{shadow}
use denote.Text.{Utf8}
use Rattle.std.specs.Slice.Iter.{iter_rest}
use Rattle.explain_report.specs.Steps.{steps_text}
use Rattle.explain_report.proofs.steps.put_steps.Given as goal

-- the text so far stands in front of that of the questions that are left
abbrev pub invariant-loop-step : goal.invariant-loop-step
invariant-loop-step l =
    (string_bytes l.text ++ steps_text l.before (iter_rest l.step-iterator)
    ≡ string_bytes l.fn.text ++ steps_text [] l.trail)
    × shadow (Utf8 l.before)
