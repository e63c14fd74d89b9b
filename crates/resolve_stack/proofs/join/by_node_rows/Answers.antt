use Rattle.resolve_stack.specs.Rows.{of_node}
use Rattle.resolve_stack.proofs.Raising.{asks_raised_result}
use Rattle.resolve_stack.proofs.join.by_node_rows.Goals as goal

pub returns : goal.returns
returns g c =
    rw c.raised.ensures (asks_raised_result of_node _ (rw c.node-node.ensures at c.node_order_with-found.ensures))
