use Rattle.std.proofs.Common.{◌≡◌, ◌<◌, ◌∷◌, true, length, rules, string_bytes}
use Rattle.sugar_path.specs.Path.{below}
use Rattle.pnp_core.proofs.NodeLists.{location_at-read}
use Rattle.pnp_core.proofs.TrieMakes.{either, needed_made, between_trie, between_needed, beside_trie, beside_needed}
use Rattle.pnp_core.proofs.trie_nodes.part.Goals as goal

pub index-requires : goal.index-requires
index-requires g c =
    let lt : c.args.child.0 < length c.args.nodes.now.items =
    (c.requires.trie.leads c.args.at.0 c.args.child.0 _ c.requires.way).1 in
    search rules

pub parting_of-requires : goal.parting_of-requires
parting_of-requires g c =
    let lt : c.args.child.0 < length c.args.nodes.now.items =
    (c.requires.trie.leads c.args.at.0 c.args.child.0 _ c.requires.way).1 in
    rw (← location_at-read c.args.nodes.now.items c.args.child.0 c.index.result.now lt c.index.ensures) c.requires.apart

pub returns-in_default-clause-trie : goal.returns-in_default-clause-trie
returns-in_default-clause-trie g c =
    let lt : c.args.child.0 < length c.args.nodes.now.items =
    (c.requires.trie.leads c.args.at.0 c.args.child.0 _ c.requires.way).1 in
    let lower = location_at-read c.args.nodes.now.items c.args.child.0 c.index.result.now lt c.index.ensures in
    let parting = rw (← lower) at c.in_ok-parting.ensures in
    either c.put_between.result c.put_between.ensures.ok c.put_between.ensures.err
    (λ a. between_trie c.args.nodes.now.items c.put_between.new.nodes.items c.args.at.0 c.args.child.0
    (string_bytes c.args.name) c.args.location c.in_ok-parting.parting c.requires.trie c.requires.way
    c.requires.below parting a)
    (λ e. rw e c.requires.trie)

pub returns-in_default-clause-needed : goal.returns-in_default-clause-needed
returns-in_default-clause-needed g c =
    needed_made c.put_between.result c.put_between.new.nodes.items (length c.args.nodes.now.items)
    c.put_between.ensures.made c.put_between.ensures.ok
    (λ a. between_needed c.args.nodes.now.items c.put_between.new.nodes.items c.args.at.0 (string_bytes c.args.name)
    c.in_ok-parting.parting c.requires.needed a)

pub returns-clause-trie : goal.returns-clause-trie
returns-clause-trie g c =
    let lt : c.args.child.0 < length c.args.nodes.now.items =
    (c.requires.trie.leads c.args.at.0 c.args.child.0 _ c.requires.way).1 in
    let lower = location_at-read c.args.nodes.now.items c.args.child.0 c.index.result.now lt c.index.ensures in
    let parting = rw (← lower) at c.in_ok-parting.ensures in
    let lead : below c.args.location (string_bytes c.in_ok-beside.beside ∷ c.in_ok-parting.parting.location) ≡ true =
    rw c.in_ok-beside.ensures.ok c.in-Some.ensures in
    either c.put_beside.result c.put_beside.ensures.ok c.put_beside.ensures.err
    (λ a. beside_trie c.args.nodes.now.items c.put_beside.new.nodes.items c.args.at.0 c.args.child.0
    (string_bytes c.args.name) c.args.location c.in_ok-parting.parting (string_bytes c.in_ok-beside.beside)
    c.requires.trie c.requires.path c.requires.way c.requires.below parting lead a)
    (λ e. rw e c.requires.trie)

pub returns-clause-needed : goal.returns-clause-needed
returns-clause-needed g c =
    let lt : c.args.child.0 < length c.args.nodes.now.items =
    (c.requires.trie.leads c.args.at.0 c.args.child.0 _ c.requires.way).1 in
    let lower = location_at-read c.args.nodes.now.items c.args.child.0 c.index.result.now lt c.index.ensures in
    let parting = rw (← lower) at c.in_ok-parting.ensures in
    let lead : below c.args.location (string_bytes c.in_ok-beside.beside ∷ c.in_ok-parting.parting.location) ≡ true =
    rw c.in_ok-beside.ensures.ok c.in-Some.ensures in
    needed_made c.put_beside.result c.put_beside.new.nodes.items _ c.put_beside.ensures.made c.put_beside.ensures.ok
    (λ a. beside_needed c.args.nodes.now.items c.put_beside.new.nodes.items c.args.at.0 c.args.child.0
    (string_bytes c.args.name) c.args.location c.in_ok-parting.parting (string_bytes c.in_ok-beside.beside)
    c.requires.needed parting lead a)
