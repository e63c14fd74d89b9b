use Rattle.std.proofs.Common.{length, sym, ◌∙◌}
use Rattle.sugar_path.proofs.Below.{below-root}
use Rattle.pnp_core.specs.Nodes.{location_at, child_at}
use Rattle.pnp_core.proofs.TrieWays.{shorter_way}
use Rattle.pnp_core.proofs.trie_nodes.way_end.Goals as goal

pub is_above-requires : goal.is_above-requires
is_above-requires g c =
    (c.requires.trie.leads c.loop-child.node.0 c.in-Some.child.0 c.in-Some.ensures.0 c.in-Some.ensures.2).1

pub loop-child-init : goal.loop-child-init
loop-child-init g c = (c.requires.some, rw c.requires.trie.root (below-root c.args.path.now))

pub loop-child-smaller : goal.loop-child-smaller
loop-child-smaller g c =
    shorter_way (length c.args.nodes.now) (location_at c.args.nodes.now) (child_at c.args.nodes.now) c.loop-child.node.0
    c.in-Some.child.0 c.in-Some.ensures.0 c.args.path.now c.requires.trie c.in-Some.ensures.2
    (sym c.is_above.ensures ∙ c.if-is_above.true)

pub loop-child-preserved : goal.loop-child-preserved
loop-child-preserved g c = (
  (c.requires.trie.leads c.loop-child.node.0 c.in-Some.child.0 c.in-Some.ensures.0
      c.in-Some.ensures.2).1,
  sym c.is_above.ensures ∙ c.if-is_above.true,
)
