use Rattle.std.proofs.Common.{ap, ◌∙◌}
use Rattle.trail_bundle.specs.Keeping.{kept_without}
use Rattle.trail_bundle.proofs.replies.put_or_undo.Goals as goal

pub returns-in-Err-clause-undone : goal.returns-in-Err-clause-undone
returns-in-Err-clause-undone c = λ q.
    c.take_out.ensures.gone q ∙ ap (λ f. kept_without f c.put_first.new.replies q) c.as_slice.ensures.value
    ∙ c.put_first.ensures.back q
