use Rattle.std.proofs.Common.{◌∙◌}
use Rattle.resolve_stack.specs.Rows.{of_node}
use Rattle.resolve_stack.proofs.Raising.{asks_raised_result}
use Rattle.resolve_stack.proofs.join.by_node_rows_from.Goals as goal

pub node_order_from-found-requires : goal.node_order_from-found-requires
node_order_from-found-requires g c = rw c.node-node.ensures c.requires.path

pub returns : goal.returns
returns g c =
    rw (c.raised.ensures, c.requires.text) (asks_raised_result of_node _
    (rw c.node-node.ensures at c.node_order_from-found.ensures))
