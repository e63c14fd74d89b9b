use Rattle.std.proofs.Common.{sym, ◌∙◌}
use Rattle.swc_loader.specs.NodeRows.{target_or_answer, target_before_search}
use Rattle.tree_core.specs.Plan.{Done}
use Rattle.resolve_stack.specs.Rows.{of_node}
use Rattle.resolve_stack.proofs.Raising.{asks_raised_result, bare_row, searched_row}
use Rattle.tree_core.proofs.RowCalls.{row_then, row_fails, end_row, goes_on_row}
use Rattle.resolve_stack.proofs.join.join_owned.Goals as goal

pub returns-in_err-before : goal.returns-in_err-before
unfolding target_before_search
returns-in_err-before g c =
    row_fails (λ before. Done (target_or_answer before)) _ _ c.from_residual.ensures.1
    (rw (c.node-node.ensures, c.requires) at c.in_err-before.ensures)

pub returns-in-Decided : goal.returns-in-Decided
unfolding target_before_search
returns-in-Decided g c =
    row_then (λ before. Done (target_or_answer before)) _
    (rw (c.node-node.ensures, c.requires) at c.in_ok-before.ensures) c.in-Decided.is (end_row _)

pub returns-then-not-is_bare : goal.returns-then-not-is_bare
unfolding target_before_search
returns-then-not-is_bare g c =
    let bare = sym c.is_bare.ensures ∙ c.if-not-is_bare.true in
    row_then (λ before. Done (target_or_answer before)) _
    (rw (c.node-node.ensures, c.requires) at c.in_ok-before.ensures) c.in-Target.is
    (goes_on_row _ _ (searched_row c.args.project.now _ _ _ _ (rw c.as_str.ensures at bare)
    (rw c.raised.ensures (asks_raised_result of_node _
    (rw (c.node-node.ensures, c.as_str-then-not-is_bare.ensures) at c.search_with-found.ensures)))))

pub returns : goal.returns
unfolding target_before_search
returns g c =
    let bare = sym c.is_bare.ensures ∙ c.if-not-is_bare.false in
    row_then (λ before. Done (target_or_answer before)) _
    (rw (c.node-node.ensures, c.requires) at c.in_ok-before.ensures) c.in-Target.is
    (goes_on_row _ _ (bare_row c.args.project.now _ _ _ _ (rw c.as_str.ensures at bare)
    (rw (c.as_str-2.ensures, c.requires) at c.join_bare.ensures)))
