use Rattle.std.proofs.Common.{◌≡◌, ◌+◌, length, suc, rules}
use Rattle.pnp_core.proofs.NodeLists.{puts_beside, ways-updated}
use Rattle.pnp_core.proofs.trie_nodes.put_beside.Goals as goal

pub returns-clause-ok : goal.returns-clause-ok
returns-clause-ok g c =
    let size : c.len.result ≡ length c.args.nodes.now.items = search rules in
    let size-2 : c.len-2.result + 1 ≡ suc (length c.args.nodes.now.items) = search rules in
    let led = rw (c.push_reserved-2.ensures.items, c.push_reserved.ensures.items, c.reserve.ensures.items, size) at
    c.in-Ok.ensures.ok in
    let ways_are = rw size-2 at (ways-updated c.args.parting.children c.insert.new.self c.args.beside _
    c.in_ok-insert.ensures.updates) in
    puts_beside c.args.nodes.now.items c.lead.new.nodes.items c.args.at.0 _ c.args.parting c.leaf.result
    c.insert.new.self _ c.args.location c.requires.place c.requires.empty c.leaf.ensures ways_are led
