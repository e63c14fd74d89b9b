use Rattle.tree_core.proofs.RowCalls.{after_row, after_decision, stops_row, stops_decision, stops_decision_to}
use Rattle.resolve_stack.proofs.join.join_bare.Goals as goal

pub returns-in_err-name : goal.returns-in_err-name
returns-in_err-name g c = stops_decision _ _ _ _ c.from_residual.ensures.1 c.in_err-name.ensures

pub returns-in_err-locator : goal.returns-in_err-locator
returns-in_err-locator g c =
    after_decision _ c.in_ok-name.ensures (stops_decision _ _ _ _ c.from_residual-in_err-locator.ensures.1
    c.in_err-locator.ensures)

pub returns-in_err-location : goal.returns-in_err-location
returns-in_err-location g c =
    after_decision _ c.in_ok-name.ensures (after_decision _ c.in_ok-locator.ensures
    (stops_row _ _ _ c.from_residual-in_err-location.ensures.1
    (rw c.as_str.ensures at c.in_err-location.ensures.asks)))

pub returns-in_err-folder : goal.returns-in_err-folder
returns-in_err-folder g c =
    after_decision _ c.in_ok-name.ensures (after_decision _ c.in_ok-locator.ensures
    (after_row _ (rw c.as_str.ensures at c.in_ok-location.ensures.asks)
    (stops_decision_to _ _ _ _ c.from_residual-in_err-folder.ensures.1 c.in_err-folder.ensures)))

pub returns : goal.returns
returns g c =
    after_decision _ c.in_ok-name.ensures (after_decision _ c.in_ok-locator.ensures
    (after_row _ (rw c.as_str.ensures at c.in_ok-location.ensures.asks)
    (after_decision _ c.in_ok-folder.ensures (rw c.text_in.ensures at c.join_in_folder.ensures))))
