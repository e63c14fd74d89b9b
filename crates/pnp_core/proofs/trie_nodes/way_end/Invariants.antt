use Rattle.std.proofs.Common.{◌<◌, ◌-◌, length}
use Rattle.std.specs.Prelude.{IsTrue}
use Rattle.sugar_path.specs.Path.{below}
use Rattle.pnp_core.specs.Nodes.{location_at}
use Rattle.pnp_core.proofs.trie_nodes.way_end.Given as goal

-- the path is or lies below the node's location
abbrev pub invariant-loop-child : goal.invariant-loop-child
invariant-loop-child g l = (l.node.0 < length l.nodes) × IsTrue (below l.path (location_at l.nodes l.node.0))

abbrev pub decreases-loop-child : goal.decreases-loop-child
decreases-loop-child g l = length l.path - length (location_at l.nodes l.node.0)
