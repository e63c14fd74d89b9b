use Rattle.std.proofs.Common.{ap, sym, ◌∙◌, get_or}
use Rattle.pnp_core.specs.Nodes.{place_of}
use Rattle.pnp_core.proofs.NodeLists.{ways-text, child_at-at}
use Rattle.pnp_core.proofs.trie_nodes.child_of.Goals as goal

pub returns : goal.returns
returns g c =
    ap place_of (c.copied.ensures ∙ c.get.ensures.value)
    ∙ sym (ways-text c.args.name.now (get_or c.args.nodes.now c.args.at.0 c.index-nodes-at.result).children.entries)
    ∙ sym (child_at-at c.args.nodes.now c.args.at.0 c.index-nodes-at.result c.args.name.now c.requires)
