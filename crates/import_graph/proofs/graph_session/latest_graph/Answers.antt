use Rattle.session_core.specs.SessionView.{state_of}
use Rattle.import_graph.proofs.Asked.{graph-asked}
use Rattle.import_graph.proofs.Loans.{last-made}
use Rattle.import_graph.proofs.graph_session.latest_graph.Goals as goal

pub returns-in_ok-walk-clause-last : goal.returns-in_ok-walk-clause-last
returns-in_ok-walk-clause-last g c =
    let s = state_of c.args.sources.now in
    let u = state_of c.walk.new.sources in
    last-made g.S.Scan.imports s u c.args.entries.now c.in_ok-walk.field-0 c.keys-keys.ensures.right
    c.in_ok-walk.ensures.graph (graph-asked g.S.Scan.imports s u c.args.entries.now c.in_ok-walk.field-0
    c.in_ok-walk.ensures.graph c.in_ok-walk.ensures.asked) c.in_ok-walk.ensures.same

pub returns-in_ok-walk-clause-asked : goal.returns-in_ok-walk-clause-asked
returns-in_ok-walk-clause-asked g c = graph-asked g.S.Scan.imports (state_of c.args.sources.now)
    (state_of c.walk.new.sources) c.args.entries.now c.in_ok-walk.field-0 c.in_ok-walk.ensures.graph
    c.in_ok-walk.ensures.asked
