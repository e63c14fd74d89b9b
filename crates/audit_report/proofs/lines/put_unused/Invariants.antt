use Rattle.std.proofs.Common.{◌≡◌, ◌++◌, drop, string_bytes}
use Rattle.audit_report.specs.Lines.{unused_lines}
use Rattle.audit_report.proofs.lines.put_unused.Given as goal

-- the lines so far stand in front of those of the entries that are left
abbrev pub invariant-loop-entry : goal.invariant-loop-entry
invariant-loop-entry l =
    string_bytes l.lines ++ unused_lines (drop l.entry-index l.unused)
    ≡ string_bytes l.fn.lines ++ unused_lines l.unused
