use Rattle.std.proofs.Common.{◌≡◌, ◌++◌, drop, map}
use Rattle.session_core.specs.SessionView.{state_of}
use Rattle.import_graph.specs.GraphState.{IsSameBut, after_asks, edge_by}
use Rattle.import_graph.proofs.sources.edges_by.Given as goal

-- the edges so far stand in front of those of the imports that are left
abbrev pub invariant-loop-text : goal.invariant-loop-text
invariant-loop-text l =
    IsSameBut (state_of l.fn.session) (state_of l.session)
    × (after_asks (state_of l.fn.session) (map (λ text. (l.importer, text)) l.texts) ≡ after_asks (state_of l.session)
    (map (λ text. (l.importer, text)) (drop l.text-index l.texts)))
    × (map (edge_by (state_of l.fn.session) l.importer) l.texts ≡ l.edges.items
    ++ map (edge_by (state_of l.fn.session) l.importer) (drop l.text-index l.texts))
