use Rattle.std.proofs.Common.{◌≡◌, ◌∙◌, Ok, refl, ap}
use Rattle.tree_core.specs.Plan.{Done, on_ok}
use Rattle.tree_core.specs.Resolving.{resolving}
use Rattle.tree_core.specs.Rows.{never_refuses}
use Rattle.tree_core.proofs.Asking.{asks_then, asks_as, asks_done, asks_fails_in, asks_stops}
use Rattle.swc_loader.specs.NodeRows.{is_told_relative, answered_placed, answer_found}
use Rattle.swc_loader.proofs.resolver.NodeModulesResolver.answer_found.Goals as goal
use Rattle.swc_loader.proofs.resolver.NodeModulesResolver.answer_found.Goals.{then-rewritten, else-rewritten}

pub returns-in_err-path : goal.returns-in_err-path
unfolding answer_found
returns-in_err-path g c = asks_stops resolving _ _ _ c.from_residual.ensures.1 c.in_err-path.ensures

pub returns-in_err-answer-in-File : goal.returns-in_err-answer-in-File
unfolding answer_found never_refuses
returns-in_err-answer-in-File g c =
    let relative = elim c.if-rewritten.branch as (λ _. c.if-rewritten.relative ≡ is_told_relative c.args.self.now
    c.args.sought.now.relative c.in-File.path c.in-File.rewritten) [
      | then-rewritten w ↦ rw w.if-rewritten.true (w.relative-is ∙ (rw w.cwd.ensures at w.is_below-relative.ensures))
      | else-rewritten w ↦ rw w.if-rewritten.false w.relative-is
    ] in
    asks_as (on_ok (λ placed. never_refuses (answered_placed c.args.self.now c.args.sought.now.relative placed)))
    c.in_ok-path.ensures (ap (λ placed. Ok placed) c.in-File.is)
    (asks_fails_in resolving (λ a. Done (Ok a)) _ c.from_residual-in_err-answer-in-File.ensures.1
    (rw relative at c.in_err-answer-in-File.ensures))

pub returns-in_ok-answer-in-File : goal.returns-in_ok-answer-in-File
unfolding answer_found never_refuses
returns-in_ok-answer-in-File g c =
    let relative = elim c.if-rewritten.branch as (λ _. c.if-rewritten.relative ≡ is_told_relative c.args.self.now
    c.args.sought.now.relative c.in-File.path c.in-File.rewritten) [
      | then-rewritten w ↦ rw w.if-rewritten.true (w.relative-is ∙ (rw w.cwd.ensures at w.is_below-relative.ensures))
      | else-rewritten w ↦ rw w.if-rewritten.false w.relative-is
    ] in
    asks_as (on_ok (λ placed. never_refuses (answered_placed c.args.self.now c.args.sought.now.relative placed)))
    c.in_ok-path.ensures (ap (λ placed. Ok placed) c.in-File.is)
    (asks_then (λ a. Done (Ok a)) (rw relative at c.in_ok-answer-in-File.ensures) (asks_done refl))

pub returns-in-Ignored : goal.returns-in-Ignored
unfolding answer_found never_refuses
returns-in-Ignored g c =
    asks_as (on_ok (λ placed. never_refuses (answered_placed c.args.self.now c.args.sought.now.relative placed)))
    c.in_ok-path.ensures (ap (λ placed. Ok placed) c.in-Ignored.is)
    (asks_then (λ a. Done (Ok a)) (asks_done c.custom.ensures) (asks_done refl))
