use Rattle.std.proofs.Common.{◌≡◌, Some, refl, rules}
use Rattle.session_core.specs.SessionView.{state_of}
use Rattle.import_graph.proofs.Loans.{graph-once, leaves-asked, borrowed-asked, borrowed-is}
use Rattle.import_graph.proofs.graph_session.GraphSession.graph.Goals as goal

pub returns : goal.returns
returns g c =
    let imports = g.S.Scan.imports in
    let s = state_of c.self.inside.sources in
    let u = state_of c.latest_graph.new.sources in
    let entries = c.self.inside.entries in
    let there : c.latest_graph.new.latest ≡ Some c.unwrap.result.now = search rules in
    let is = borrowed-is imports s u entries c.as_slice.result.now c.latest_graph.new.latest c.unwrap.result.now
    c.as_slice.ensures there c.in_ok-latest_graph.ensures.last c.in_ok-latest_graph.ensures.same in
    let asked =
    borrowed-asked s u c.latest_graph.new.latest c.unwrap.result.now there c.in_ok-latest_graph.ensures.asked in
    rw (← c.self.view_is) (
      (refl, λ _. tt, leaves-asked imports s u entries c.unwrap.result.now is asked),
      record {
        ends = tt;
        graph = is;
        once = graph-once imports (record { session = s; entries = entries })
            c.unwrap.result.now is;
      },
    )
