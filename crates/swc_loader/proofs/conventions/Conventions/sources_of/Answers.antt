use Rattle.std.proofs.Common.{[], bytes_eq, unwrap_or, refl, sym, ap, ◌∙◌}
use Rattle.std.specs.Map.{lookup}
use Rattle.std.proofs.lemmas.List.{at_drop_all}
use Rattle.swc_loader.specs.Candidates.{sources_of}
use Rattle.swc_loader.specs.ConventionsView.{conventions_of}
use Rattle.swc_loader.proofs.Naming.{sources_behind, sources-hit, sources-miss, endings-next, sources_are_endings}
use Rattle.swc_loader.proofs.conventions.Conventions.sources_of.Goals as goal

pub loop-written-init : goal.loop-written-init
loop-written-init c =
    record { left = refl; endings = sources_are_endings (conventions_of c.self.inside) c.self.invariant }

pub returns-then-eq-clause-list : goal.returns-then-eq-clause-list
returns-then-eq-clause-list c =
    let found = c.loop-written.invariant.left
    ∙ sources-hit c.args.extension.now c.self.inside.source_endings.now c.loop-written.written-index
    (record { ref_ptr = (0, 0); now = [] }, record { ref_ptr = (0, 0); now = [] }) c.loop-written-test.true
    (sym c.eq.ensures ∙ c.if-eq.true) in
    sym (ap (λ v. sources_of v c.args.extension.now) (sym c.self.view_is) ∙ ap (λ o. unwrap_or o []) found)

pub returns-then-eq-clause-endings : goal.returns-then-eq-clause-endings
returns-then-eq-clause-endings c =
    (endings-next c.self.inside.source_endings.now c.loop-written.written-index
    (record { ref_ptr = (0, 0); now = [] }, record { ref_ptr = (0, 0); now = [] }) c.loop-written-test.true
    c.loop-written.invariant.endings).0

pub loop-written-preserved : goal.loop-written-preserved
loop-written-preserved c = record {
  left = c.loop-written.invariant.left ∙ sources-miss c.args.extension.now c.self.inside.source_endings.now
      c.loop-written.written-index (record { ref_ptr = (0, 0); now = [] }, record { ref_ptr = (0, 0); now = [] })
      c.loop-written-test.true (sym c.eq.ensures ∙ c.if-eq.false);
  endings = (endings-next c.self.inside.source_endings.now c.loop-written.written-index
      (record { ref_ptr = (0, 0); now = [] }, record { ref_ptr = (0, 0); now = [] }) c.loop-written-test.true
      c.loop-written.invariant.endings).1;
}

pub returns-clause-list : goal.returns-clause-list
returns-clause-list c =
    let none = c.loop-written.invariant.left ∙ at_drop_all (λ left. lookup (bytes_eq c.args.extension.now)
    (sources_behind left)) c.self.inside.source_endings.now c.loop-written.written-index
    c.loop-written-test.false in
    sym (ap (λ v. sources_of v c.args.extension.now) (sym c.self.view_is) ∙ ap (λ o. unwrap_or o []) none)
