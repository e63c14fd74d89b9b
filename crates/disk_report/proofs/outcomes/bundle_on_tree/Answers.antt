use Rattle.std.proofs.Common.{◌∙◌, ◌∷◌, ◌+◌, ap, drop, map, refl, string_bytes, subst, sym}
use Rattle.tree_core.specs.Asks.{AgreeWith}
use Rattle.trail_bundle.specs.BundleView.{bundle_of}
use Rattle.disk_report.specs.Outcomes.{Answered, IsDecided}
use Rattle.disk_report.proofs.Told.{add_refused, next_word, none_answered, none_bundled, one_answered, one_bundled}
use Rattle.disk_report.proofs.outcomes.bundle_on_tree.Goals as goal

pub loop-specifier-init : goal.loop-specifier-init
loop-specifier-init g c = record {
  stands = refl;
  count = refl;
  told = none_answered _ (none_bundled _ _ c.new-bundle.ensures c.new-bundle.result.are);
}

pub returns-in_err-add-clause-failed : goal.returns-in_err-add-clause-failed
returns-in_err-add-clause-failed g c =
    let a : Answered = record { specifier = c.as_str-wanted.result.now; outcome = c.in_ok-outcome.outcome } in
    let next = next_word c.args.specifiers.now c.loop-specifier.specifier-index c.specifier-item.result
    c.loop-specifier-test.true c.specifier-item.is
    ∙ ap (λ s. s ∷ drop (c.loop-specifier.specifier-index + 1) (map string_bytes c.args.specifiers.now))
    (sym c.as_str-wanted.ensures.value) in
    let agree = subst (λ s. AgreeWith s c.in_ok-outcome.outcome.trail) c.loop-specifier.invariant.stands
    c.in_ok-outcome.ensures.agree in
    let decided : IsDecided _ c.args.project.now c.args.importer.now a =
    record { settled = c.in_ok-outcome.ensures.settled; agree = agree } in
    add_refused _ _ _ a (bundle_of c.loop-specifier.bundle) _ _ c.from_residual-in_err-add.ensures.1
    c.loop-specifier.invariant.told next decided c.in_err-add.ensures.refused

pub loop-specifier-preserved : goal.loop-specifier-preserved
loop-specifier-preserved g c =
    let a : Answered = record { specifier = c.as_str-wanted.result.now; outcome = c.in_ok-outcome.outcome } in
    let next = next_word c.args.specifiers.now c.loop-specifier.specifier-index c.specifier-item.result
    c.loop-specifier-test.true c.specifier-item.is
    ∙ ap (λ s. s ∷ drop (c.loop-specifier.specifier-index + 1) (map string_bytes c.args.specifiers.now))
    (sym c.as_str-wanted.ensures.value) in
    let agree = subst (λ s. AgreeWith s c.in_ok-outcome.outcome.trail) c.loop-specifier.invariant.stands
    c.in_ok-outcome.ensures.agree in
    record {
      stands = c.resolve_import.ensures.stands ∙ c.loop-specifier.invariant.stands;
      count = c.in_ok-outcome.ensures.cause ∙ c.loop-specifier.invariant.count;
      told = one_answered _ _ _ a c.loop-specifier.invariant.told next
          (record { settled = c.in_ok-outcome.ensures.settled; agree = agree })
          (λ answered held. one_bundled c.args.importer.now answered a (bundle_of c.loop-specifier.bundle)
          (bundle_of c.add.new.self) c.add.new.self.are c.in_ok-add.ensures.ok held);
    }
