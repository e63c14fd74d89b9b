use Rattle.std.proofs.Common.{◌≡◌, false, true, inl, inr, sym, ◌∙◌, rules, subst, List, ℕ}
use Rattle.std.specs.Prelude.{◌↔◌, IsTrue}
use Rattle.std.specs.Str.{IsUtf8}
use Rattle.sugar_path.proofs.BorrowedWays.{IsEmptyOrPlace, in_order-told, in_order-not, not_told}
use Rattle.sugar_path.proofs.borrowed.is_in_order.Goals as goal
use Rattle.sugar_path.proofs.borrowed.is_in_order.Goals.{then-is_absolute, else-is_absolute}

pub returns-then-is_empty_or_place : goal.returns-then-is_empty_or_place
returns-then-is_empty_or_place c =
    let utf8 : IsTrue c.is_ok.result ↔ IsUtf8 c.args.path.now = search rules in
    elim c.if-is_absolute.branch [
      | then-is_absolute w ↦ in_order-told c.args.path.now w.without_last_slashes.result.now c.is_ok.result
          (sym c.is_absolute.ensures ∙ w.if-is_absolute.true) w.without_last_slashes.ensures
          (w.is_empty_or_place.ensures.0 (sym w.value-is ∙ c.if-is_empty_or_place.true)) utf8
      | else-is_absolute w ↦ absurd (let e : false ≡ true = sym w.if-is_absolute.false ∙ sym w.value-is
          ∙ c.if-is_empty_or_place.true in cc)
    ]

pub returns-else-is_empty_or_place : goal.returns-else-is_empty_or_place
returns-else-is_empty_or_place c =
    in_order-not c.args.path.now c.if-is_absolute.value c.if-is_empty_or_place.false
    (elim c.if-is_absolute.branch [
      | then-is_absolute w ↦ inr (let P : List ℕ → Type 0 = λ t. ¬ IsEmptyOrPlace t in
          subst P w.without_last_slashes.ensures (not_told _ _ (sym w.value-is ∙ c.if-is_empty_or_place.false)
          w.is_empty_or_place.ensures.1))
      | else-is_absolute w ↦ inl (sym c.is_absolute.ensures ∙ w.if-is_absolute.false)
    ])
