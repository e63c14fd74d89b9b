use Rattle.std.proofs.Common.{Ok, refl}
use Rattle.tree_core.specs.Plan.{Done}
use Rattle.tree_core.specs.Resolving.{resolving}
use Rattle.tree_core.specs.Rows.{never_refuses}
use Rattle.tree_core.proofs.Asking.{asks_then, asks_done, asks_fails_in}
use Rattle.resolve_stack.specs.Rows.{of_node}
use Rattle.resolve_stack.proofs.Raising.{asks_raised_result}
use Rattle.resolve_stack.proofs.join_rows.found_at.Goals as goal

pub returns-in_ok-rewrite_at_with-in-Some : goal.returns-in_ok-rewrite_at_with-in-Some
unfolding never_refuses
returns-in_ok-rewrite_at_with-in-Some g c =
    rw c.in-Some.is (asks_then (λ a. Done (Ok a)) (rw c.node-node.ensures at c.in_ok-rewrite_at_with-in-Some.ensures)
    (asks_done refl))

pub returns-in_err-rewrite_at_with-in-Some : goal.returns-in_err-rewrite_at_with-in-Some
unfolding never_refuses
returns-in_err-rewrite_at_with-in-Some g c =
    rw c.in-Some.is (asks_fails_in resolving (λ a. Done (Ok a)) _ c.from_residual.ensures.1
    (rw c.node-node.ensures at c.in_err-rewrite_at_with-in-Some.ensures))

pub returns-in-None : goal.returns-in-None
returns-in-None g c =
    rw (c.in-None.is, c.raised.ensures) (asks_raised_result of_node _
    (rw c.node-node.ensures at c.resolve_at_with.ensures))
