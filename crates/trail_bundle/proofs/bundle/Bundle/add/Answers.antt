use Rattle.std.proofs.Common.{◌≡◌, arith, sym, ◌∙◌}
use Rattle.tree_core.specs.declared.question.Question.{Question}
use Rattle.trail_bundle.specs.Keeping.{reply_at}
use Rattle.trail_bundle.specs.Steps.{steps_of}
use Rattle.trail_bundle.proofs.Keeping.{from_error, one_list, without_last}
use Rattle.trail_bundle.proofs.bundle.Bundle.add.Goals as goal

pub returns-then-is_err-clause-err : goal.returns-then-is_err-clause-err
returns-then-is_err-clause-err c =
    let old = c.args.self.now in
    let requests = without_last old.requests.items c.pop.new.self.items c.push.new.self.items _ _ c.pop.ensures.rest
    (omega (arith, c.push.new.self.ok)) c.in_ok-push.ensures.items in
    let same : (q : Question) → reply_at c.put_all.new.replies q ≡ reply_at old.replies q =
    from_error c.put_all.result ((q : Question) → reply_at c.put_all.new.replies q ≡ reply_at old.replies q)
    (sym c.is_err.ensures.value ∙ c.if-is_err.true) c.put_all.ensures.err in
    let replies = one_list (steps_of c.put_all.new.replies.entries) (steps_of old.replies.entries)
    (c.put_all.ensures.are old.are) old.are same in
    λ i. record { requests = requests i; replies = replies i }
