use Rattle.std.proofs.Common.{filter, subst, sym}
use Rattle.std.specs.List.{IsDistinct}
use Rattle.std.specs.Str.{bytes_eq}
use Rattle.tree_core.specs.Tree.{is_file}
use Rattle.session_core.specs.SessionView.{state_of}
use Rattle.import_graph.proofs.Graphs.{once-distinct}
use Rattle.import_graph.proofs.Walking.{graph-is}
use Rattle.import_graph.proofs.walk.walk.Goals as goal

pub nodes_from-requires : goal.nodes_from-requires
nodes_from-requires g c = subst (IsDistinct bytes_eq) (sym c.in_ok-seen.ensures)
    (once-distinct (filter (is_file (state_of c.args.sources.now).tree.files) c.args.entries.now))

pub returns-clause-graph : goal.returns-clause-graph
returns-clause-graph g c = graph-is g.S.Scan.imports (state_of c.args.sources.now) c.args.entries.now
    c.in_ok-seen.seen.keys c.in_ok-nodes.nodes c.in_ok-missing.missing c.in_ok-seen.ensures c.in_ok-nodes.ensures.nodes
    c.in_ok-missing.ensures
