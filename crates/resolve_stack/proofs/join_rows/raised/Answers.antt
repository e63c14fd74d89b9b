use Rattle.resolve_stack.specs.Rows.{of_node}
use Rattle.resolve_stack.proofs.Raising.{mapped_seen}
use Rattle.resolve_stack.proofs.join_rows.raised.Goals as goal

pub returns-in-Err : goal.returns-in-Err
returns-in-Err g c = rw c.in-Err.is (mapped_seen of_node _ _ _ (λ x y h. h) c.map_refused.ensures)
