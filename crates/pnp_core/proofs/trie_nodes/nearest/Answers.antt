use Rattle.std.proofs.Common.{◌≡◌, length, sym, ap, ◌∙◌, rules, ◌<◌, Some, None}
use Rattle.std.specs.Option.{option_or}
use Rattle.sugar_path.proofs.Below.{below-root}
use Rattle.pnp_core.specs.Nodes.{location_at, child_at, value_in}
use Rattle.pnp_core.proofs.TrieWays.{
  shorter_way,
  nearest_value-nil,
  nearest_value-first,
  nearest_value-end,
  nearest_value-child,
}
use Rattle.pnp_core.proofs.trie_nodes.nearest.Goals as goal

pub returns-then-is_empty-clause-value : goal.returns-then-is_empty-clause-value
returns-then-is_empty-clause-value g c =
    let empty : length c.args.nodes.now ≡ 0 = search rules in
    nearest_value-nil c.args.nodes.now c.args.path.now empty

pub loop-child-init : goal.loop-child-init
loop-child-init g c =
    let some : 0 < length c.args.nodes.now = search rules in
    record {
      place = some;
      above = rw c.requires.trie.root (below-root c.args.path.now);
      found = tt;
      value = nearest_value-first c.args.nodes.now c.requires.trie some;
    }

pub returns-in_default-clause-value : goal.returns-in_default-clause-value
returns-in_default-clause-value g c =
    nearest_value-end c.args.nodes.now c.loop-child.at.0 c.args.path.now (Some c.in-Some.child.0) c.requires.trie
    c.loop-child.invariant.place c.requires.path c.loop-child.invariant.above
    (c.in-Some.ensures, sym c.is_above.ensures ∙ c.if-is_above.false)
    ∙ c.loop-child.invariant.value ∙ sym c.own_or-nearest.ensures.value

pub returns-in_default-2-clause-value : goal.returns-in_default-2-clause-value
returns-in_default-2-clause-value g c =
    nearest_value-end c.args.nodes.now c.loop-child.at.0 c.args.path.now None c.requires.trie
    c.loop-child.invariant.place c.requires.path c.loop-child.invariant.above (c.in_default.ensures, tt)
    ∙ c.loop-child.invariant.value ∙ sym c.own_or-nearest.ensures.value

pub is_above-requires : goal.is_above-requires
is_above-requires g c =
    (c.requires.trie.leads c.loop-child.at.0 c.in-Some.child.0 c.in-Some.ensures.0 c.in-Some.ensures.2).1

pub loop-child-smaller : goal.loop-child-smaller
loop-child-smaller g c =
    shorter_way (length c.args.nodes.now) (location_at c.args.nodes.now) (child_at c.args.nodes.now) c.loop-child.at.0
    c.in-Some.child.0 c.in-Some.ensures.0 c.args.path.now c.requires.trie c.in-Some.ensures.2
    (sym c.is_above.ensures ∙ c.if-is_above.true)

pub loop-child-preserved : goal.loop-child-preserved
loop-child-preserved g c = record {
  place = (c.requires.trie.leads c.loop-child.at.0 c.in-Some.child.0 c.in-Some.ensures.0 c.in-Some.ensures.2).1;
  above = sym c.is_above.ensures ∙ c.if-is_above.true;
  found = c.own_or-nearest.ensures.place;
  value =
      nearest_value-child c.args.nodes.now c.loop-child.at.0 c.in-Some.child.0 c.in-Some.ensures.0 c.requires.trie
      c.in-Some.ensures.2
      ∙ ap (option_or (value_in c.args.nodes.now c.in-Some.child.0))
      (c.loop-child.invariant.value ∙ sym c.own_or-nearest.ensures.value);
}
