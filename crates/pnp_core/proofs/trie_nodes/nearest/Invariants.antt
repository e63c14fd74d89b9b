use Rattle.std.proofs.Common.{◌≡◌, ◌<◌, ◌-◌, length}
use Rattle.std.specs.Prelude.{IsTrue, IfSome}
use Rattle.std.specs.Option.{option_or}
use Rattle.sugar_path.specs.Path.{below}
use Rattle.pnp_core.specs.Trie.{nearest_value}
use Rattle.pnp_core.specs.Nodes.{location_at, value_in, value_of, stored}
use Rattle.pnp_core.proofs.trie_nodes.nearest.Given as goal

-- the path is or lies below the node's location, where the node's own value, or else the one found above it, is the
-- nearest
abbrev pub invariant-loop-child : goal.invariant-loop-child
invariant-loop-child g l = record {
  place : l.at.0 < length l.nodes;
  above : IsTrue (below l.path (location_at l.nodes l.at.0));
  found : IfSome l.nearest (λ i. i.0 < length l.nodes);
  value : nearest_value (stored l.nodes) (location_at l.nodes l.at.0) ≡ option_or (value_in l.nodes l.at.0)
      (value_of l.nodes l.nearest);
}

abbrev pub decreases-loop-child : goal.decreases-loop-child
decreases-loop-child g l = length l.path - length (location_at l.nodes l.at.0)
