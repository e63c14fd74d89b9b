use Rattle.std.proofs.Common.{◌≡◌, ◌++◌, drop, string_bytes}
use Rattle.imports_report.specs.Lines.{import_lines}
use Rattle.imports_report.proofs.lines.lines_of.Given as goal

-- the lines so far stand in front of those of the imports that are left
abbrev pub invariant-loop-import : goal.invariant-loop-import
invariant-loop-import l =
    string_bytes l.lines ++ import_lines (drop l.import-index l.imports) ≡ import_lines l.imports
