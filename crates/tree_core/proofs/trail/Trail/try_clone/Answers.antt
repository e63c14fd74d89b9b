use Rattle.std.proofs.Common.{◌≡◌, ◌<◌, true, List, length, get_or, ◌∙◌, sym, ap, subst, arith}
use Rattle.tree_core.specs.declared.question.Question.{Question}
use Rattle.tree_core.specs.declared.question.Reply.{Reply}
use Rattle.tree_core.specs.Question.{fits}
use Rattle.tree_core.proofs.Replies.{fits-at}
use Rattle.tree_core.proofs.trail.Trail.try_clone.Goals as goal

pub push_copy-requires : goal.push_copy-requires
push_copy-requires c =
    let within : c.loop-step.step-index < length c.self.inside.steps.items =
    omega (arith, c.loop-step-test.true, ap length c.deref-step-items.ensures.value) in
    let step = ap (λ (steps : List (Question × Reply)). get_or steps c.loop-step.step-index c.step-item.result)
    (sym c.deref-step-items.ensures.value) ∙ sym c.step-item.is in
    let P : Question × Reply → Type 0 = λ s. fits s.0 s.1 ≡ true in
    subst P step (fits-at c.self.inside.steps.items c.loop-step.step-index c.step-item.result c.self.invariant.fit
    within)
