use Rattle.std.proofs.Common.{◌≡◌, false, true, refl, sym, ◌∙◌}
use Rattle.sugar_path.specs.Borrowed.{IsInOrder}
use Rattle.sugar_path.proofs.Fronts.{base-in_order}
use Rattle.sugar_path.proofs.BorrowedWays.{borrowed-none, borrowed-below, borrowed-way, not_told}
use Rattle.sugar_path.proofs.borrowed.borrowed_way.Goals as goal
use Rattle.sugar_path.proofs.borrowed.borrowed_way.Goals.{
  in_default-via-in-Some+then-is_absolute+else-is_in_order,
  in_default-via-in-Some+else-is_absolute,
  in_default-via-in_default,
}

pub returns-in-Some-clause-without_memory : goal.returns-in-Some-clause-without_memory
returns-in-Some-clause-without_memory c =
    let rest = rw (c.without_last_slashes.ensures, c.without_last_slashes-2.ensures) at c.in-Some.ensures in
    let target = c.is_in_order.ensures.0 c.if-is_in_order.true in
    let base = base-in_order c.args.base.now c.args.target.now c.in-Some.way.now
    (sym c.is_absolute.ensures ∙ c.if-is_absolute.true) target rest in
    (λ h. borrowed-below c.args.base.now c.args.target.now c.in-Some.way.now base target rest, λ h. refl)

pub returns-in-Some-clause-way : goal.returns-in-Some-clause-way
returns-in-Some-clause-way c =
    let rest = rw (c.without_last_slashes.ensures, c.without_last_slashes-2.ensures) at c.in-Some.ensures in
    let target = c.is_in_order.ensures.0 c.if-is_in_order.true in
    let base = base-in_order c.args.base.now c.args.target.now c.in-Some.way.now
    (sym c.is_absolute.ensures ∙ c.if-is_absolute.true) target rest in
    borrowed-way c.args.base.now c.args.target.now c.in-Some.way.now base target rest

pub returns-in_default-clause-without_memory : goal.returns-in_default-clause-without_memory
returns-in_default-clause-without_memory c = (
  λ h. absurd (let e : false ≡ true = h in cc),
  λ h. absurd (elim c.in_default.branch [
    | in_default-via-in-Some+then-is_absolute+else-is_in_order w ↦
        not_told _ (IsInOrder c.args.target.now) w.if-is_in_order.false w.is_in_order.ensures.1 h.to
    | in_default-via-in-Some+else-is_absolute w ↦ let e : false ≡ true =
        sym w.if-is_absolute.false ∙ w.is_absolute.ensures ∙ h.from.absolute in cc
    | in_default-via-in_default w ↦
        let rest = rw (c.without_last_slashes.ensures, c.without_last_slashes-2.ensures) at w.in_default.ensures in
        borrowed-none c.args.base.now c.args.target.now rest h
  ]),
)
