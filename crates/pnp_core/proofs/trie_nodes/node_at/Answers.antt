use Rattle.std.proofs.Common.{◌≡◌, ◌<◌, ◌∷◌, true, length, ap, ◌∙◌, string_bytes}
use Rattle.sugar_path.specs.Path.{below}
use Rattle.pnp_core.specs.Nodes.{location_at, child_at, place_of}
use Rattle.pnp_core.proofs.NodeLists.{location_at-read}
use Rattle.pnp_core.proofs.TrieMakes.{
  either,
  err_either,
  needed_made,
  needed_same,
  trie_same,
  attaches_trie,
  attaches_needed,
}
use Rattle.pnp_core.proofs.TrieWays.{next_child_at}
use Rattle.pnp_core.proofs.trie_nodes.node_at.Given as given
use Rattle.pnp_core.proofs.trie_nodes.node_at.Goals as goal
use Rattle.pnp_core.proofs.trie_nodes.node_at.Goals.{In_ok-name}

-- the name leads on to the location, and to the child beside which the way ends
named : (g : given.Over) (c : In_ok-name g) → (below c.args.location
    (string_bytes c.in_ok-name.name ∷ location_at c.make_root.new.nodes.items c.way_end-beside.result.node.0) ≡ true)
    × (child_at c.make_root.new.nodes.items c.way_end-beside.result.node.0 (string_bytes c.in_ok-name.name) ≡ place_of
    c.way_end-beside.result.beside)
named g c =
    let nodes = c.make_root.new.nodes.items in
    let lt : c.way_end-beside.result.node.0 < length nodes =
    rw c.deref.ensures.value at c.way_end-beside.ensures.place in
    let here = location_at-read nodes c.way_end-beside.result.node.0 c.index.result.now lt c.index.ensures in
    let lead : below c.args.location (string_bytes c.in_ok-name.name ∷ location_at nodes c.way_end-beside.result.node.0)
    ≡ true = rw (here, c.in_ok-name.ensures.ok) c.in-Some.ensures in
    let end = rw c.deref.ensures.value at c.way_end-beside.ensures.end in (
      lead,
      next_child_at nodes c.way_end-beside.result.node.0 c.args.location (string_bytes c.in_ok-name.name)
          (place_of c.way_end-beside.result.beside) end.0 lead,
    )

pub part-requires-clause-way : goal.part-requires-clause-way
part-requires-clause-way g c =
    (named g (goal.at.part-requires-clause-way g c).In_ok-name).1 ∙ ap place_of c.in-Some-beside.is

pub returns-in-None-clause-trie : goal.returns-in-None-clause-trie
returns-in-None-clause-trie g c =
    let lt : c.way_end-beside.result.node.0 < length c.make_root.new.nodes.items =
    rw c.deref.ensures.value at c.way_end-beside.ensures.place in
    let way = named g (goal.at.returns-in-None-clause-trie g c).In_ok-name in
    either c.attach.result c.attach.ensures.ok c.attach.ensures.err
    (λ a. attaches_trie c.make_root.new.nodes.items c.attach.new.nodes.items c.way_end-beside.result.node.0
    (string_bytes c.in_ok-name.name) c.args.location c.make_root.ensures.trie lt c.requires.path way.0
    (way.1 ∙ ap place_of c.in-None.is) a)
    (λ same. trie_same c.make_root.new.nodes.items c.attach.new.nodes.items same c.make_root.ensures.trie)

pub returns-in-None-clause-needed : goal.returns-in-None-clause-needed
returns-in-None-clause-needed g c =
    needed_made c.attach.result c.attach.new.nodes.items (length c.make_root.new.nodes.items) c.attach.ensures.made
    c.attach.ensures.ok
    (λ a. attaches_needed c.make_root.new.nodes.items c.attach.new.nodes.items c.way_end-beside.result.node.0
    (string_bytes c.in_ok-name.name) c.args.location c.make_root.ensures.needed a)

pub returns-in-None-clause-err : goal.returns-in-None-clause-err
returns-in-None-clause-err g c =
    err_either c.attach.result c.attach.ensures.err (λ same. needed_same c.make_root.new.nodes.items
    c.attach.new.nodes.items 0 same c.make_root.ensures.needed)
