use Rattle.std.proofs.Common.{◌∙◌, ◌∷◌, ◌+◌, ap, drop, map, string_bytes, subst, sym}
use Rattle.tree_core.specs.Asks.{AgreeWith}
use Rattle.disk_report.specs.Outcomes.{Answered}
use Rattle.disk_report.proofs.Told.{lines_push, next_word, one_answered}
use Rattle.disk_report.proofs.outcomes.lines_on_tree.Goals as goal

pub loop-specifier-preserved : goal.loop-specifier-preserved
loop-specifier-preserved g c =
    let a : Answered = record { specifier = c.as_str-wanted.result.now; outcome = c.in_ok-outcome.outcome } in
    let next = next_word c.args.specifiers.now c.loop-specifier.specifier-index c.specifier-item.result
    c.loop-specifier-test.true c.specifier-item.is
    ∙ ap (λ s. s ∷ drop (c.loop-specifier.specifier-index + 1) (map string_bytes c.args.specifiers.now))
    (sym c.as_str-wanted.ensures.value) in
    let agree = subst (λ s. AgreeWith s c.in_ok-outcome.outcome.trail) c.loop-specifier.invariant.stands
    c.in_ok-outcome.ensures.agree in
    let put = rw c.as_str.ensures.value at c.in_ok-push_str.ensures.bytes in
    record {
      stands = c.resolve_import.ensures.stands ∙ c.loop-specifier.invariant.stands;
      count = c.in_ok-outcome.ensures.cause ∙ c.loop-specifier.invariant.count;
      told = one_answered _ _ _ a c.loop-specifier.invariant.told next
          (record { settled = c.in_ok-outcome.ensures.settled; agree = agree })
          (λ answered held. lines_push c.args.importer.now c.args.form a _ (string_bytes c.in_ok-told.told) _
          c.in_ok-told.ensures put answered held);
    }
