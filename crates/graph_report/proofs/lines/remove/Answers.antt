use Rattle.import_graph.specs.GraphView.{graph_state}
use Rattle.graph_report.proofs.Steps.{removal-leaves}
use Rattle.graph_report.proofs.lines.remove.Goals as goal

pub returns-clause-taken : goal.returns-clause-taken
returns-clause-taken g c =
    removal-leaves g.S.Scan.imports c.line_of_removal.result (graph_state c.args.session.now)
    (graph_state c.remove-dropped.new.self)
    c.args.path.now c.remove-dropped.result c.remove-dropped.ensures.was c.remove-dropped.ensures.gone
    c.remove-dropped.ensures.absent
