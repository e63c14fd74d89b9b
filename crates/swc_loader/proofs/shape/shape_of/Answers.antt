use Rattle.std.proofs.Common.{◌≡◌, [], ◌∷◌, true, false, List, ℕ, refl, sym, ◌∙◌, subst, lit<}
use Rattle.std.proofs.lemmas.Iterator.Consumers.{YieldsList-end, YieldsList-at}
use Rattle.std.proofs.lemmas.Iterator.Splits.{YieldsList-from_str_split}
use Rattle.std.proofs.lemmas.List.{map-append}
use Rattle.swc_loader.specs.Candidates.{is_step}
use Rattle.swc_loader.proofs.Shapes.{ShapeOf, one_more_part}
use Rattle.swc_loader.proofs.shape.shape_of.Goals as goal

pub loop-part-preserved-then-is_step : goal.loop-part-preserved-then-is_step
loop-part-preserved-then-is_step c =
    let step : is_step c.in-Some.part.now ≡ true = sym c.is_step.ensures ∙ c.if-is_step.true in
    let P : List (List ℕ) → Type 0 = ShapeOf c.is_name-closed.result c.is_name-closed.result in (
      tt,
      tt,
      subst P (sym (map-append (λ x. x.now) c.loop-part.yielded (c.in-Some.part ∷ [])))
          (one_more_part _ _ _ _ _ _ c.loop-part.invariant.2 c.is_name-closed.ensures (rw step refl)),
    )

pub loop-part-preserved : goal.loop-part-preserved
loop-part-preserved c =
    let step : is_step c.in-Some.part.now ≡ false = sym c.is_step.ensures ∙ c.if-is_step.false in
    let P : List (List ℕ) → Type 0 = ShapeOf c.loop-part.named c.is_name-closed.result in (
      tt,
      tt,
      subst P (sym (map-append (λ x. x.now) c.loop-part.yielded (c.in-Some.part ∷ [])))
          (one_more_part _ _ _ _ _ _ c.loop-part.invariant.2 c.is_name-closed.ensures (rw step refl)),
    )

pub returns-clause-named : goal.returns-clause-named
returns-clause-named c =
    let all = YieldsList-end (YieldsList-at c.into_iter-part-iterator.ensures.into_iter_gives
    (YieldsList-from_str_split 47 c.args.text.now (lit< tt) c.split-part-items.ensures.text
    c.split-part-items.ensures.has_more c.split-part-items.ensures.pattern))
    c.loop-part.yielded _ c.loop-part.yielded_by _ _ c.in-None.is c.next.ensures.steps in
    let P : List (List ℕ) → Type 0 = ShapeOf c.loop-part.named c.loop-part.closed in
    (subst P all.0 c.loop-part.invariant.2).named

pub returns-clause-closed : goal.returns-clause-closed
returns-clause-closed c =
    let all = YieldsList-end (YieldsList-at c.into_iter-part-iterator.ensures.into_iter_gives
    (YieldsList-from_str_split 47 c.args.text.now (lit< tt) c.split-part-items.ensures.text
    c.split-part-items.ensures.has_more c.split-part-items.ensures.pattern))
    c.loop-part.yielded _ c.loop-part.yielded_by _ _ c.in-None.is c.next.ensures.steps in
    let P : List (List ℕ) → Type 0 = ShapeOf c.loop-part.named c.loop-part.closed in
    (subst P all.0 c.loop-part.invariant.2).closed
