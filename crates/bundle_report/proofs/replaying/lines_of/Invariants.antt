use Rattle.std.proofs.Common.{◌≡◌, ◌++◌, drop, string_bytes}
use Rattle.bundle_report.specs.Replaying.{verdict_lines}
use Rattle.bundle_report.proofs.replaying.lines_of.Given as goal

-- the lines so far stand in front of the others
abbrev pub invariant-loop-verdict : goal.invariant-loop-verdict
invariant-loop-verdict l =
    string_bytes l.lines ++ verdict_lines (drop l.verdict-index l.verdicts) ≡ verdict_lines l.verdicts
