use Rattle.import_graph.specs.GraphView.{graph_state}
use Rattle.graph_report.proofs.Steps.{asked-left}
use Rattle.graph_report.proofs.lines.ask.Goals as goal

pub returns-clause-taken : goal.returns-clause-taken
returns-clause-taken g c =
    asked-left g.S.Scan.imports c.line_of_graph.result c.graph.result c.in_ok-graph.field-0
    (graph_state c.args.session.now)
    (graph_state c.graph.follows.lender-at-none) c.in_ok-graph.was c.graph.follows.holds-at-none
