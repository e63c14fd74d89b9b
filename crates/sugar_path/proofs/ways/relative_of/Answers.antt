use Rattle.std.proofs.Common.{List, ℕ, ◌≡◌, true, false, not, sym, ap, ◌∙◌, subst, rules}
use Rattle.std.specs.Prelude.{IfOk}
use Rattle.sugar_path.specs.Path.{join}
use Rattle.sugar_path.specs.Route.{route_of}
use Rattle.sugar_path.specs.Relative.{needs_folder}
use Rattle.sugar_path.proofs.WayParts.{
  between-routes,
  same-below,
  same-alone,
  same-rooted,
  relative-below,
  relative-alone,
  folder-given,
}
use Rattle.sugar_path.proofs.Heres.{folder-roots, folder-alone, folder-apart}
use Rattle.sugar_path.proofs.SharedTexts.{place-of}
use Rattle.sugar_path.proofs.ways.relative_of.Goals as goal
use Rattle.sugar_path.proofs.ways.relative_of.Goals.{
  then-is_absolute+else-is_absolute-2+in_ok-from+in_ok-to+else-ups_of_place+in-Owned-1,
  then-is_absolute+else-is_absolute-2+in_ok-from+in_ok-to+else-ups_of_place+in-Borrowed-1,
  else-is_absolute,
}

pub returns-then-is_absolute-2 : goal.returns-then-is_absolute-2
returns-then-is_absolute-2 c =
    let base = c.args.base.now in
    let target = c.args.target.now in
    let alone : needs_folder base target ≡ false = ap not (same-rooted base target (search rules) (search rules)) in
    let P : List ℕ → Type 0 = λ t. IfOk c.way_from_root.result (λ v. v.items ≡ t) in
    subst P (sym (relative-alone c.args.cwd.now base target alone)) c.way_from_root.ensures

pub returns-then-ups_of_place : goal.returns-then-ups_of_place
returns-then-ups_of_place c =
    let base = c.args.base.now in
    let target = c.args.target.now in
    let from =
    place-of base c.bytes-from.result.now (c.bytes-from.ensures ∙ c.as_path.ensures ∙ c.in_ok-from.ensures) in
    let to = place-of target c.bytes-to.result.now (c.bytes-to.ensures ∙ c.as_path-then-is_absolute.ensures
    ∙ c.in_ok-to.ensures) in
    let alone : needs_folder base target ≡ false =
    folder-alone base target c.is_absolute.result c.is_absolute-2.result c.ups_of_place.result
    c.ups_of_place-then-is_absolute.result
    c.is_absolute.ensures c.is_absolute-2.ensures c.if-is_absolute.true
    (c.ups_of_place.ensures (route_of target) to) (c.ups_of_place-then-is_absolute.ensures (route_of base) from)
    c.if-ups_of_place.true in
    let is = between-routes (route_of base) (route_of target) (same-alone base target alone)
    ∙ sym (relative-alone c.args.cwd.now base target alone) in
    let P : List ℕ → Type 0 = λ t. IfOk c.way_between.result (λ v. v.items ≡ t) in
    subst P is (c.way_between.ensures (route_of base) (route_of target) from to)

pub returns : goal.returns
returns c =
    let cwd = c.args.cwd.now in
    let base = c.args.base.now in
    let target = c.args.target.now in
    let needs : needs_folder base target ≡ true =
    elim c.if-is_absolute.branch [
      | then-is_absolute+else-is_absolute-2+in_ok-from+in_ok-to+else-ups_of_place+in-Owned-1 w ↦
          let from =
          place-of base w.bytes-from.result.now (w.bytes-from.ensures ∙ w.as_path.ensures ∙ w.in_ok-from.ensures) in
          let to = place-of target w.bytes-to.result.now (w.bytes-to.ensures ∙ w.as_path-then-is_absolute.ensures
          ∙ w.in_ok-to.ensures) in
          folder-apart base target c.is_absolute.result c.is_absolute-2.result w.ups_of_place.result
          w.ups_of_place-then-is_absolute.result
          c.is_absolute.ensures c.is_absolute-2.ensures w.if-is_absolute.true
          (w.ups_of_place.ensures (route_of target) to) (w.ups_of_place-then-is_absolute.ensures (route_of base) from)
          w.if-ups_of_place.false
      | then-is_absolute+else-is_absolute-2+in_ok-from+in_ok-to+else-ups_of_place+in-Borrowed-1 w ↦
          let from =
          place-of base w.bytes-from.result.now (w.bytes-from.ensures ∙ w.as_path.ensures ∙ w.in_ok-from.ensures) in
          let to = place-of target w.bytes-to.result.now (w.bytes-to.ensures ∙ w.as_path-then-is_absolute.ensures
          ∙ w.in_ok-to.ensures) in
          folder-apart base target c.is_absolute.result c.is_absolute-2.result w.ups_of_place.result
          w.ups_of_place-then-is_absolute.result
          c.is_absolute.ensures c.is_absolute-2.ensures w.if-is_absolute.true
          (w.ups_of_place.ensures (route_of target) to) (w.ups_of_place-then-is_absolute.ensures (route_of base) from)
          w.if-ups_of_place.false
      | else-is_absolute w ↦
          sym (folder-roots base target c.is_absolute.result c.is_absolute-2.result c.is_absolute.ensures
          c.is_absolute-2.ensures (ap not w.if-is_absolute.false)) ∙ ap not w.if-is_absolute.false
    ] in
    let same = same-below cwd base target (folder-given cwd base target c.requires needs) in
    let from =
    place-of (join cwd base) c.bytes.result.now (c.bytes.ensures ∙ c.as_path-2.ensures ∙ c.in_ok-from-2.ensures) in
    let to = place-of (join cwd target) c.bytes-2.result.now
    (c.bytes-2.ensures ∙ c.as_path-3.ensures ∙ c.in_ok-to-2.ensures) in
    let is = between-routes (route_of (join cwd base)) (route_of (join cwd target)) same
    ∙ sym (relative-below cwd base target needs) in
    let P : List ℕ → Type 0 = λ t. IfOk c.way_between-2.result (λ v. v.items ≡ t) in
    subst P is (c.way_between-2.ensures (route_of (join cwd base)) (route_of (join cwd target)) from to)
