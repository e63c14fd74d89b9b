use Rattle.std.proofs.Common.{[], ◌∷◌, map, length, sym, ap, ◌∙◌, lit<}
use Rattle.std.proofs.lemmas.Iterator.Consumers.{YieldsList-turn, YieldsList-end, YieldsList-at}
use Rattle.std.proofs.lemmas.Iterator.Splits.{YieldsList-from_str_split}
use Rattle.std.proofs.lemmas.List.{map-append}
use Rattle.sugar_path.specs.Path.{by_parts, by_part}
use Rattle.sugar_path.proofs.Parts.{part-no_slash, by_parts-push}
use Rattle.sugar_path.proofs.clean_path.CleanPath.follow_all.Goals as goal

pub follow-requires : goal.follow-requires
follow-requires c =
    part-no_slash c.args.text.now (length c.loop-part.yielded) c.in-Some.part.now
    (YieldsList-turn (YieldsList-at c.into_iter-part-iterator.ensures.into_iter_gives
    (YieldsList-from_str_split 47 c.args.text.now (lit< tt) c.split-part-items.ensures.text
    c.split-part-items.ensures.has_more c.split-part-items.ensures.pattern))
    c.loop-part.yielded _ c.loop-part.yielded_by _ _ c.in-Some.part c.in-Some.is c.next.ensures.steps)

pub loop-part-preserved : goal.loop-part-preserved
loop-part-preserved c = (
  tt,
  tt,
  c.in_ok-follow.ensures
      ∙ ap (λ p. by_part p c.in-Some.part.now) c.loop-part.invariant.2
      ∙ sym (by_parts-push c.args.self (map (λ x. x.now) c.loop-part.yielded) c.in-Some.part.now)
      ∙ ap (by_parts c.args.self) (sym (map-append (λ x. x.now) c.loop-part.yielded (c.in-Some.part ∷ []))),
)

pub returns : goal.returns
returns c =
    let all = YieldsList-end (YieldsList-at c.into_iter-part-iterator.ensures.into_iter_gives
    (YieldsList-from_str_split 47 c.args.text.now (lit< tt) c.split-part-items.ensures.text
    c.split-part-items.ensures.has_more c.split-part-items.ensures.pattern))
    c.loop-part.yielded _ c.loop-part.yielded_by _ _ c.in-None.is c.next.ensures.steps in
    c.loop-part.invariant.2 ∙ ap (by_parts c.args.self) all.0
