use Rattle.std.proofs.Common.{◌≡◌, bytes_eq, drop}
use Rattle.indexmap.specs.IndexSet.{insert_all}
use Rattle.import_graph.specs.Graph.{found_by}
use Rattle.import_graph.proofs.walk.see.Given as goal

-- the files that the edges so far lead to are seen
abbrev pub invariant-loop-edge : goal.invariant-loop-edge
invariant-loop-edge l = insert_all bytes_eq l.fn.seen.keys (found_by l.node.edges) ≡ insert_all bytes_eq l.seen.keys
    (found_by (drop l.edge-index l.node.edges))
