use Rattle.std.proofs.Common.{◌≡◌, sym, ◌∙◌, ◌∷◌, true}
use Rattle.sugar_path.specs.Path.{below}
use Rattle.pnp_core.specs.Nodes.{location_at, place_of}
use Rattle.pnp_core.proofs.Belows.{below-child_of_it}
use Rattle.pnp_core.proofs.NodeLists.{location_at-at}
use Rattle.pnp_core.proofs.TrieWays.{next_child_of}
use Rattle.pnp_core.proofs.trie_nodes.next_child.Goals as goal

pub first_name_below-requires : goal.first_name_below-requires
first_name_below-requires g c =
    rw (← location_at-at c.args.nodes.now c.args.at.0 c.index-nodes-at.result c.requires.place) c.requires.above

pub returns-in_err-name : goal.returns-in_err-name
returns-in_err-name g c =
    let here = c.in_err-name.ensures ∙ sym (location_at-at c.args.nodes.now c.args.at.0 c.index-nodes-at.result
    c.requires.place) in
    rw c.from_residual.ensures (λ name h. absurd (below-child_of_it (location_at c.args.nodes.now c.args.at.0) name
    (rw here at h)))

pub returns : goal.returns
returns g c =
    let lead : below c.args.path.now (c.in_ok-name.name.now ∷ location_at c.args.nodes.now c.args.at.0) ≡ true =
    rw (location_at-at c.args.nodes.now c.args.at.0 c.index-nodes-at.result c.requires.place)
    c.in_ok-name.ensures in
    next_child_of c.args.nodes.now c.args.at.0 c.args.path.now c.in_ok-name.name.now (place_of c.child_of.result) lead
    c.child_of.ensures
