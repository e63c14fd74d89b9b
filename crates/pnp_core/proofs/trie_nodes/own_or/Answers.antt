use Rattle.std.proofs.Common.{sym, ap, ◌∙◌}
use Rattle.std.specs.Prelude.{is_some}
use Rattle.pnp_core.specs.Nodes.{value_in, value_of}
use Rattle.pnp_core.proofs.NodeLists.{value_in-at}
use Rattle.pnp_core.proofs.TrieWays.{option_or-some, option_or-other}
use Rattle.pnp_core.proofs.trie_nodes.own_or.Goals as goal

pub returns-then-is_some-clause-value : goal.returns-then-is_some-clause-value
returns-then-is_some-clause-value g c =
    option_or-some (value_in c.args.nodes.now c.args.at.0) (value_of c.args.nodes.now c.args.nearest)
    (ap is_some (value_in-at c.args.nodes.now c.args.at.0 c.index-nodes-at.result c.requires.place)
    ∙ sym c.is_some.ensures ∙ c.if-is_some.true)

pub returns-else-is_some-clause-value : goal.returns-else-is_some-clause-value
returns-else-is_some-clause-value g c =
    option_or-other (value_in c.args.nodes.now c.args.at.0) (value_of c.args.nodes.now c.args.nearest)
    (ap is_some (value_in-at c.args.nodes.now c.args.at.0 c.index-nodes-at.result c.requires.place)
    ∙ sym c.is_some.ensures ∙ c.if-is_some.false)
