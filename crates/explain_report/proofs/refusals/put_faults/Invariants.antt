use Rattle.std.proofs.Common.{◌≡◌, ◌++◌, drop, string_bytes}
use Rattle.explain_report.specs.Refusals.{fault_lines}
use Rattle.explain_report.proofs.refusals.put_faults.Given as goal

-- the lines so far stand in front of those of the refusals that are left
abbrev pub invariant-loop-refusal : goal.invariant-loop-refusal
invariant-loop-refusal l =
    string_bytes l.lines ++ fault_lines (drop l.refusal-index l.refusals)
    ≡ string_bytes l.fn.lines ++ fault_lines l.refusals
