use Rattle.std.proofs.Common.{sym, ap, ◌∙◌}
use Rattle.session_core.specs.SessionView.{state_of}
use Rattle.import_graph.specs.GraphState.{after_asks, requests_at}
use Rattle.import_graph.proofs.Asked.{requests-at}
use Rattle.import_graph.proofs.Walking.{node-is}
use Rattle.import_graph.proofs.walk.node_of.Goals as goal

pub returns-clause-asked : goal.returns-clause-asked
returns-clause-asked g c =
    let s = state_of c.args.sources.now in
    let node = node-is g.S.Scan.imports s.tree.files s.project c.args.file.now c.in_ok-name.name c.in_ok-edges.edges
    c.in_ok-name.ensures c.in_ok-edges.ensures.edges in
    c.in_ok-edges.ensures.asked
    ∙ ap (after_asks s) (sym (requests-at g.S.Scan.imports s.tree.files s.project c.args.file.now))
    ∙ ap (λ n. after_asks s (requests_at n)) (sym node)
