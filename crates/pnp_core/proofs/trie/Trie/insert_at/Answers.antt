use Rattle.pnp_core.proofs.TrieValues.{valued_trie, valued_needed, valued_puts}
use Rattle.pnp_core.proofs.trie.Trie.insert_at.Goals as goal

pub invariant_of-self : goal.invariant_of-self
invariant_of-self g c = (
  valued_trie c.node_at.new.nodes.items c.in-Ok.node.0 c.index_mut.result.now c.args.value c.index_mut.ensures.value
      c.node_at.ensures.trie,
  valued_needed c.node_at.new.nodes.items c.in-Ok.node.0 c.index_mut.result.now c.args.value c.in-Ok.ensures.node.place
      c.index_mut.ensures.value c.in-Ok.ensures.needed,
)

pub returns-in-Ok-clause-ok : goal.returns-in-Ok-clause-ok
returns-in-Ok-clause-ok g c =
    rw (← c.self.view_is, ← c.node_at.ensures.stored)
    (valued_puts c.node_at.new.nodes.items c.in-Ok.node.0 c.index_mut.result.now c.args.value c.args.location
    c.node_at.ensures.trie c.in-Ok.ensures.node.place c.index_mut.ensures.value c.in-Ok.ensures.node.location)
