use Rattle.std.proofs.Common.{◌≡◌, length, rules}
use Rattle.pnp_core.proofs.NodeLists.{puts_between}
use Rattle.pnp_core.proofs.trie_nodes.put_between.Goals as goal

pub returns-clause-ok : goal.returns-clause-ok
returns-clause-ok g c =
    let size : c.len.result ≡ length c.args.nodes.now.items = search rules in
    let led = rw (c.push_reserved.ensures.items, c.reserve.ensures.items, size) at c.in-Ok.ensures.ok in
    puts_between c.args.nodes.now.items c.lead.new.nodes.items c.args.at.0 _ c.args.parting c.requires.place
    c.requires.empty led
