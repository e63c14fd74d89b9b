use Rattle.std.proofs.Common.{◌≡◌, ◌++◌, drop, string_bytes}
use Rattle.cli_core.specs.Report.{lines_of}
use Rattle.cli_core.proofs.report.lines_on.Given as goal

-- the lines so far stand in front of the others
abbrev pub invariant-loop-request : goal.invariant-loop-request
invariant-loop-request l = record {
  files : l.tree.files ≡ l.fn.tree.files;
  lines : lines_of l.form l.fn.tree.files l.project l.requests ≡ string_bytes l.lines
      ++ lines_of l.form l.fn.tree.files l.project (drop l.request-index l.requests);
}
