use Rattle.std.proofs.Common.{◌≡◌, length, rules}
use Rattle.pnp_core.proofs.NodeLists.{attaches}
use Rattle.pnp_core.proofs.trie_nodes.attach.Goals as goal

pub returns-clause-ok : goal.returns-clause-ok
returns-clause-ok g c =
    let size : c.len.result ≡ length c.args.nodes.now.items = search rules in
    let led = rw (c.reserve.ensures.items, size) at c.in_ok-lead.ensures.ok in
    attaches c.args.nodes.now.items c.lead.new.nodes.items c.push_reserved.new.self.items c.args.at.0 _ c.args.location
    c.leaf.result c.requires led c.leaf.ensures c.push_reserved.ensures.items
