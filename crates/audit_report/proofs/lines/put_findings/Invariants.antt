use Rattle.std.proofs.Common.{◌≡◌, ◌++◌, drop, string_bytes}
use Rattle.audit_report.specs.Lines.{finding_lines}
use Rattle.audit_report.proofs.lines.put_findings.Given as goal

-- the lines so far stand in front of those of the findings that are left
abbrev pub invariant-loop-finding : goal.invariant-loop-finding
invariant-loop-finding l =
    string_bytes l.lines ++ finding_lines (drop l.finding-index l.findings)
    ≡ string_bytes l.fn.lines ++ finding_lines l.findings
