use Rattle.std.proofs.Common.{◌+◌, drop, arith}
use Rattle.std.proofs.lemmas.Grind.{common_steps}
use Rattle.import_graph.specs.GraphView.{graph_state}
use Rattle.graph_report.proofs.Steps.{lines-left}
use Rattle.graph_report.proofs.lines.lines_of.Goals as goal

pub loop-step-preserved : goal.loop-step-preserved
loop-step-preserved g c =
    let left = lines-left g.S.Scan.imports (graph_state c.loop-step.session) (graph_state c.line_of.new.session)
    c.step-item.result
    (drop (c.loop-step.step-index + 1) c.args.steps.now) c.in_ok-line.ensures.taken in
    grind (arith, common_steps, left)
