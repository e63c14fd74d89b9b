use Rattle.std.proofs.Common.{◌≡◌, Ok, refl, ◌∙◌}
use Rattle.tree_core.specs.Plan.{Done}
use Rattle.tree_core.specs.Resolving.{resolving}
use Rattle.tree_core.specs.Rows.{never_refuses}
use Rattle.tree_core.proofs.Asking.{asks_then, asks_done, asks_fails_in, asks_starved_in}
use Rattle.resolve_stack.specs.Rows.{is_told_relative}
use Rattle.tree_core.proofs.RowCalls.{after_row, after_row_as, stops_row, end_row, goes_on_row, after_decision}
use Rattle.tree_core.proofs.RowCalls.{stops_decision, last_row}
use Rattle.resolve_stack.proofs.join.join_in_folder.Goals as goal
use Rattle.resolve_stack.proofs.join.join_in_folder.Goals.{then-rewritten, else-rewritten}

pub returns-in_err-exported : goal.returns-in_err-exported
returns-in_err-exported g c = stops_row _ _ _ c.from_residual.ensures.1 c.in_err-exported.ensures

pub returns-in_err-placed : goal.returns-in_err-placed
returns-in_err-placed g c =
    after_row _ c.in_ok-exported.ensures (stops_row _ _ _ c.from_residual-in_err-placed.ensures.1
    c.in_err-placed.ensures)

pub returns-in-Ignored : goal.returns-in-Ignored
returns-in-Ignored g c =
    rw c.custom.ensures (after_row _ c.in_ok-exported.ensures
    (after_row_as _ c.in_ok-placed.ensures c.in-Ignored.is (end_row _)))

pub returns-in_err-file : goal.returns-in_err-file
returns-in_err-file g c =
    after_row _ c.in_ok-exported.ensures (after_row_as _ c.in_ok-placed.ensures c.in-File.is
    (goes_on_row _ _ (stops_decision _ _ _ _ c.from_residual-in_err-file.ensures.1 c.in_err-file.ensures)))

pub returns-in_err-location : goal.returns-in_err-location
returns-in_err-location g c =
    after_row _ c.in_ok-exported.ensures (after_row_as _ c.in_ok-placed.ensures c.in-File.is
    (goes_on_row _ _ (after_decision _ c.in_ok-file.ensures
    (asks_starved_in resolving _ c.from_residual-in_err-location.ensures.1))))

pub returns-in_err-answer : goal.returns-in_err-answer
unfolding never_refuses
returns-in_err-answer g c =
    let told = elim c.if-rewritten.branch as (λ _. c.if-rewritten.relative
    ≡ is_told_relative c.args.project.now c.in_ok-file.file c.in-File.rewritten) [
      | then-rewritten w ↦ rw w.if-rewritten.true (w.relative-is ∙ (rw w.cwd.ensures at w.is_below-relative.ensures))
      | else-rewritten w ↦ rw w.if-rewritten.false (w.relative-is ∙ w.if-rewritten.false)
    ] in
    let asks = rw (c.node.ensures, told, c.in_ok-location.ensures.text) at c.in_err-answer.ensures in
    after_row _ c.in_ok-exported.ensures (after_row_as _ c.in_ok-placed.ensures c.in-File.is
    (goes_on_row _ _ (after_decision _ c.in_ok-file.ensures
    (last_row (asks_fails_in resolving (λ a. Done (Ok a)) _ c.from_residual-in_err-answer.ensures.1 asks)))))

pub returns : goal.returns
unfolding never_refuses
returns g c =
    let told = elim c.if-rewritten.branch as (λ _. c.if-rewritten.relative
    ≡ is_told_relative c.args.project.now c.in_ok-file.file c.in-File.rewritten) [
      | then-rewritten w ↦ rw w.if-rewritten.true (w.relative-is ∙ (rw w.cwd.ensures at w.is_below-relative.ensures))
      | else-rewritten w ↦ rw w.if-rewritten.false (w.relative-is ∙ w.if-rewritten.false)
    ] in
    let asks = rw (c.node.ensures, told, c.in_ok-location.ensures.text) at c.in_ok-answer.ensures in
    after_row _ c.in_ok-exported.ensures (after_row_as _ c.in_ok-placed.ensures c.in-File.is
    (goes_on_row _ _ (after_decision _ c.in_ok-file.ensures
    (last_row (asks_then (λ a. Done (Ok a)) asks (asks_done refl))))))
