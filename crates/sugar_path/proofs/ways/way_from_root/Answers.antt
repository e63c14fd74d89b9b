use Rattle.std.proofs.Common.{List, ℕ, ◌≡◌, sym, ap, ◌∙◌, subst}
use Rattle.std.specs.Prelude.{IfOk}
use Rattle.std.proofs.lemmas.Slice.Eq.{bytes_eq-Decides}
use Rattle.sugar_path.specs.Names.{texts}
use Rattle.sugar_path.specs.Route.{route_of, place}
use Rattle.sugar_path.proofs.SharedTexts.{place-of, way-rooted}
use Rattle.sugar_path.proofs.WayParts.{between-routes, same-rooted}
use Rattle.sugar_path.proofs.ways.way_from_root.Goals as goal

pub returns-then-is_place-2 : goal.returns-then-is_place-2
returns-then-is_place-2 c =
    let base = c.args.base.now in
    let target = c.args.target.now in
    let from = place-of base base (sym ((bytes_eq-Decides (place base) base).0 (sym c.if-is_place-2.ensures))) in
    let to = place-of target target (sym ((bytes_eq-Decides (place target) target).0 (sym c.if-is_place.ensures))) in
    let is =
    between-routes (route_of base) (route_of target) (same-rooted base target c.requires.base c.requires.target) in
    let P : List ℕ → Type 0 = λ t. IfOk c.way_between.result (λ v. v.items ≡ t) in
    subst P is (c.way_between.ensures (route_of base) (route_of target) from to)

pub returns : goal.returns
returns c =
    let is = way-rooted c.args.base.now c.args.target.now _ _ c.requires.base c.requires.target
    (ap texts c.as_slice.ensures ∙ c.in_ok-from.ensures) (ap texts c.as_slice-2.ensures ∙ c.in_ok-to.ensures) in
    let P : List ℕ → Type 0 = λ t. IfOk c.way_by_names.result (λ v. v.items ≡ t) in
    subst P is c.way_by_names.ensures
