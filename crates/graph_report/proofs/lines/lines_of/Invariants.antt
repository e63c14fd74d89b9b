use Rattle.std.proofs.Common.{◌≡◌, ◌++◌, drop, string_bytes}
use Rattle.import_graph.specs.GraphView.{graph_state}
use Rattle.graph_report.specs.Lines.{step_lines}
use Rattle.graph_report.proofs.lines.lines_of.Given as goal

-- the lines so far stand in front of those of the steps that are left
abbrev pub invariant-loop-step : goal.invariant-loop-step
invariant-loop-step g l =
    step_lines g.S.Scan.imports (graph_state l.fn.session) l.steps
    ≡ string_bytes l.lines ++ step_lines g.S.Scan.imports (graph_state l.session) (drop l.step-index l.steps)
