use Rattle.std.proofs.Common.{◌≡◌, Bool, true, false, refl, ◌&&◌, ◌∷◌, [], ap, bytes_eq, rules}
use Rattle.std.proofs.lemmas.Iterator.Consumers.{YieldsList-turn, YieldsList-end, YieldsList-at, YieldsList-from_first}
use Rattle.std.proofs.lemmas.List.{length_push}
use Rattle.std.proofs.lemmas.Slice.Eq.{bytes_eq-Decides}
use Rattle.sugar_path.specs.Path.{is_plain, parts}
use Rattle.sugar_path.proofs.Leads.{up-dots, down-plain, nowhere-plain, nowhere-dots}
use Rattle.sugar_path.proofs.Placed.{turn-plain, turn-dots, turn-stop, turn-end}
use Rattle.sugar_path.proofs.normal.are_steps_in_turn.Goals as goal

pub loop-part-preserved : goal.loop-part-preserved
loop-part-preserved c =
    let turn = YieldsList-turn (YieldsList-at c.into_iter-part-iterator.ensures.into_iter_gives
    (YieldsList-from_first (λ part. part.now) (λ left. left) (parts c.args.path.now) c.of-part-items.ensures))
    c.loop-part.yielded _ c.loop-part.yielded_by _ _ c.in-Some.part c.in-Some.is c.next.ensures.steps in (
      search rules,
      search rules,
      turn-plain c.loop-part.up _ _ _ _ c.in-Some.part.now turn
          (down-plain c.in-Some.part.now c.in-Down.ensures) (length_push c.loop-part.yielded c.in-Some.part)
          c.loop-part.invariant.2,
    )

pub returns-in-Nowhere : goal.returns-in-Nowhere
returns-in-Nowhere c =
    let turn = YieldsList-turn (YieldsList-at c.into_iter-part-iterator.ensures.into_iter_gives
    (YieldsList-from_first (λ part. part.now) (λ left. left) (parts c.args.path.now) c.of-part-items.ensures))
    c.loop-part.yielded _ c.loop-part.yielded_by _ _ c.in-Some.part c.in-Some.is c.next.ensures.steps in
    turn-stop c.loop-part.up _ _ _ c.in-Some.part.now turn (nowhere-plain c.in-Some.part.now c.in-Nowhere.ensures)
    (and_none c.loop-part.up (bytes_eq c.in-Some.part.now (46 ∷ 46 ∷ []))
    (nowhere-dots c.in-Some.part.now c.in-Nowhere.ensures)) c.loop-part.invariant.2
  where
    and_none : (a b : Bool) → b ≡ false → (a && b) ≡ false
    and_none true b h = h
    and_none false b h = refl

pub returns-in-Up : goal.returns-in-Up
returns-in-Up c =
    let turn = YieldsList-turn (YieldsList-at c.into_iter-part-iterator.ensures.into_iter_gives
    (YieldsList-from_first (λ part. part.now) (λ left. left) (parts c.args.path.now) c.of-part-items.ensures))
    c.loop-part.yielded _ c.loop-part.yielded_by _ _ c.in-Some.part c.in-Some.is c.next.ensures.steps in
    turn-stop c.loop-part.up _ _ _ c.in-Some.part.now turn (ap is_plain (up-dots c.in-Some.part.now c.in-Up.ensures))
    (ap (λ b. b && bytes_eq c.in-Some.part.now (46 ∷ 46 ∷ [])) c.if-not-up.true) c.loop-part.invariant.2

pub loop-part-preserved-else-not-up : goal.loop-part-preserved-else-not-up
loop-part-preserved-else-not-up c =
    let turn = YieldsList-turn (YieldsList-at c.into_iter-part-iterator.ensures.into_iter_gives
    (YieldsList-from_first (λ part. part.now) (λ left. left) (parts c.args.path.now) c.of-part-items.ensures))
    c.loop-part.yielded _ c.loop-part.yielded_by _ _ c.in-Some.part c.in-Some.is c.next.ensures.steps in (
      search rules,
      search rules,
      turn-dots c.loop-part.up _ _ _ _ c.in-Some.part.now turn
          (ap is_plain (up-dots c.in-Some.part.now c.in-Up.ensures)) c.if-not-up.false
          ((bytes_eq-Decides c.in-Some.part.now (46 ∷ 46 ∷ [])).1 (up-dots c.in-Some.part.now c.in-Up.ensures))
          (length_push c.loop-part.yielded c.in-Some.part) c.loop-part.invariant.2,
    )

pub returns : goal.returns
returns c =
    let all = YieldsList-end (YieldsList-at c.into_iter-part-iterator.ensures.into_iter_gives
    (YieldsList-from_first (λ part. part.now) (λ left. left) (parts c.args.path.now) c.of-part-items.ensures))
    c.loop-part.yielded _ c.loop-part.yielded_by _ _ c.in-None.is c.next.ensures.steps in
    turn-end c.loop-part.up _ _ _ all.1 c.loop-part.invariant.2
