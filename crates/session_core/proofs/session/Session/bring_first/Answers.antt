use Rattle.std.proofs.Common.{◌≡◌, ap, ◌∙◌}
use Rattle.session_core.specs.Entries.{kept_for, moved_first}
use Rattle.session_core.specs.Numbered.{kept_in}
use Rattle.session_core.specs.SessionView.{state_of}
use Rattle.session_core.proofs.Asked.{not-kept, right-moved, right-put, asked_whole, starved, on_err, on_err-then}
use Rattle.session_core.proofs.session.Session.bring_first.Goals as goal

pub invariant_of-self : goal.invariant_of-self
invariant_of-self c = record {
  right = right-moved c.args.self.now.tree.files c.args.self.now.project c.args.importer.now c.args.specifier.now
      (kept_in c.args.self.now.latest) (kept_in c.recall_at.new.self) c.args.self.now.right c.recall_at.ensures.moved;
}

pub returns-in_err-outcome-clause-err : goal.returns-in_err-outcome-clause-err
returns-in_err-outcome-clause-err c =
    let none = not-kept c.recall_at.result (kept_for c.args.importer.now c.args.specifier.now
    (kept_in c.args.self.now.latest)) c.recall_at.ensures.there c.if-recall_at.false in
    let kept : kept_in c.recall_at.new.self ≡ kept_in c.args.self.now.latest =
    c.recall_at.ensures.moved ∙ ap (moved_first c.args.importer.now c.args.specifier.now
    (kept_in c.args.self.now.latest)) none in
    on_err c.from_residual.result _ (starved (state_of c.args.self.now) c.args.importer.now c.args.specifier.now
    c.outcome_of.new.tree c.recall_at.new.self.capacity (kept_in c.recall_at.new.self) c.outcome_of.ensures.same
    c.recall_at.ensures.capacity kept c.in_err-outcome.ensures.starved)

pub returns-in_err-entry-clause-err : goal.returns-in_err-entry-clause-err
returns-in_err-entry-clause-err c =
    let none = not-kept c.recall_at.result (kept_for c.args.importer.now c.args.specifier.now
    (kept_in c.args.self.now.latest)) c.recall_at.ensures.there c.if-recall_at.false in
    let kept : kept_in c.recall_at.new.self ≡ kept_in c.args.self.now.latest =
    c.recall_at.ensures.moved ∙ ap (moved_first c.args.importer.now c.args.specifier.now
    (kept_in c.args.self.now.latest)) none in
    on_err c.from_residual-in_err-entry.result _ (starved (state_of c.args.self.now) c.args.importer.now
    c.args.specifier.now c.outcome_of.new.tree c.recall_at.new.self.capacity (kept_in c.recall_at.new.self)
    c.outcome_of.ensures.same c.recall_at.ensures.capacity kept
    (asked_whole _ _ _ c.in_ok-outcome.outcome _ _ c.in_ok-outcome.ensures.outcome
    c.in_ok-outcome.ensures.asked))

pub invariant_of-self-2 : goal.invariant_of-self-2
invariant_of-self-2 c =
    let t = c.args.self.now.tree.files in
    let project = c.args.self.now.project in
    let kept = kept_in c.recall_at.new.self in
    let right = right-moved t project c.args.importer.now c.args.specifier.now (kept_in c.args.self.now.latest) kept
    c.args.self.now.right c.recall_at.ensures.moved in
    record {
      right = right-put c.put_first.result t c.outcome_of.new.tree.files project c.recall_at.new.self.capacity
          c.in_ok-entry.entry kept (kept_in c.put_first.new.self) c.outcome_of.ensures.same
          (rw c.in_ok-entry.ensures c.in_ok-outcome.ensures.outcome) c.put_first.ensures.ok
          (on_err-then c.put_first.result _ _ (λ same. ap kept_in same) c.put_first.ensures.err) right;
    }

pub returns-clause-err : goal.returns-clause-err
returns-clause-err c =
    let none = not-kept c.recall_at.result (kept_for c.args.importer.now c.args.specifier.now
    (kept_in c.args.self.now.latest)) c.recall_at.ensures.there c.if-recall_at.false in
    let kept : kept_in c.recall_at.new.self ≡ kept_in c.args.self.now.latest =
    c.recall_at.ensures.moved ∙ ap (moved_first c.args.importer.now c.args.specifier.now
    (kept_in c.args.self.now.latest)) none in
    on_err-then c.put_first.result _ _ (λ same. starved (state_of c.args.self.now) c.args.importer.now
    c.args.specifier.now c.outcome_of.new.tree c.put_first.new.self.capacity (kept_in c.put_first.new.self)
    c.outcome_of.ensures.same (c.put_first.ensures.capacity ∙ c.recall_at.ensures.capacity)
    (ap kept_in same ∙ kept) (asked_whole _ _ _ c.in_ok-outcome.outcome _ _
    c.in_ok-outcome.ensures.outcome c.in_ok-outcome.ensures.asked)) c.put_first.ensures.err
