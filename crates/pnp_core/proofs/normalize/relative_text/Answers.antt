use Rattle.std.proofs.Common.{◌≡◌, [], ◌∷◌, map, refl, sym, subst, ap, ◌∙◌, lit<, rules}
use Rattle.std.proofs.lemmas.Iterator.Consumers.{YieldsList-end, YieldsList-at}
use Rattle.std.proofs.lemmas.Iterator.Splits.{YieldsList-from_str_split}
use Rattle.std.proofs.lemmas.List.{map-append}
use Rattle.sugar_path.specs.Route.{Route, Relative, route_by_parts, route_text}
use Rattle.pnp_core.specs.Slashed.{ArePartsOf}
use Rattle.pnp_core.proofs.Routes.{parts-text, route_by_parts-append}
use Rattle.pnp_core.proofs.normalize.relative_text.Goals as goal

pub loop-part-init : goal.loop-part-init
loop-part-init c = let none : c.new-names.result.items ≡ [] = search rules in
    (search rules, search rules, record { relative = refl; names = tt; parts = rw none refl })

pub loop-part-preserved : goal.loop-part-preserved
loop-part-preserved c =
    let read : Route = route_by_parts (Relative 0 []) (map (λ x. x.now) c.loop-part.yielded) in
    let AreParts : Route → Type 0 = ArePartsOf c.follow_relative.new.names.items in (
      tt,
      tt,
      subst AreParts
          (sym (route_by_parts-append (Relative 0 []) (map (λ x. x.now) c.loop-part.yielded) (c.in-Some.part.now ∷ []))
          ∙ ap (route_by_parts (Relative 0 [])) (sym (map-append (λ x. x.now) c.loop-part.yielded
          (c.in-Some.part ∷ []))))
          (c.in_ok-follow_relative.ensures read c.loop-part.invariant.2),
    )

pub returns : goal.returns
returns c =
    let all = YieldsList-end (YieldsList-at c.into_iter-part-iterator.ensures.into_iter_gives
    (YieldsList-from_str_split 47 c.args.text.now (lit< tt) c.split-part-items.ensures.text
    c.split-part-items.ensures.has_more c.split-part-items.ensures.pattern))
    c.loop-part.yielded _ c.loop-part.yielded_by _ _ c.in-None.is c.next.ensures.steps in
    rw (c.deref.ensures.value) at c.in_ok-text.ensures
    ∙ parts-text c.loop-part.names.items (route_by_parts (Relative 0 []) (map (λ x. x.now) c.loop-part.yielded))
    c.loop-part.invariant.2
    ∙ ap (λ ps. route_text (route_by_parts (Relative 0 []) ps)) all.0
