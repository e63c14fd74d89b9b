use Rattle.std.proofs.Common.{ap, sym, refl, ◌∙◌, ◌∷◌, ◌+◌, drop, None}
use Rattle.std.proofs.lemmas.List.{drop_more}
use Rattle.trail_bundle.specs.Keeping.{kept_without}
use Rattle.trail_bundle.proofs.Keeping.{are_without, changed, out_step}
use Rattle.trail_bundle.proofs.replies.take_out.Goals as goal

pub loop-question-preserved : goal.loop-question-preserved
loop-question-preserved c =
    let x = c.question-item.result in
    let rest = drop (c.loop-question.question-index + 1) c.args.questions.now in
    let more = drop_more c.args.questions.now c.loop-question.question-index x c.loop-question-test.true in
    let up = changed c.loop-question.replies c.remove.new.self x x.question None c.remove.ensures.updates refl in (
      λ q.
          out_step x rest c.loop-question.replies c.remove.new.self up q
          ∙ ap (λ y. kept_without (y ∷ rest) c.loop-question.replies q) c.question-item.is
          ∙ ap (λ xs. kept_without xs c.loop-question.replies q) (sym more)
          ∙ c.loop-question.invariant.0 q,
      λ are. are_without c.loop-question.replies c.remove.new.self _ c.remove.ensures.entries c.remove.ensures.ordered
          (c.loop-question.invariant.1 are),
    )
