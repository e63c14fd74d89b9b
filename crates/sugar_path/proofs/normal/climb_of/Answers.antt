use Rattle.std.proofs.Common.{◌==◌, [], List, ℕ, refl, subst, rules, arith}
use Rattle.std.proofs.lemmas.Iterator.Consumers.{YieldsList-turn, YieldsList-end, YieldsList-at, YieldsList-from_first}
use Rattle.std.proofs.lemmas.List.{length_push}
use Rattle.std.proofs.lemmas.List.Splits.{length-slice_split}
use Rattle.std.proofs.lemmas.List.Sums.{count_by-le-length}
use Rattle.sugar_path.specs.Path.{parts}
use Rattle.sugar_path.specs.Route.{Relative, route_by_parts}
use Rattle.sugar_path.specs.Reading.{HasClimb}
use Rattle.sugar_path.proofs.Leads.{up-dots, down-plain}
use Rattle.sugar_path.proofs.Heres.{seen-plain, seen-back, seen-up, seen-silent}
use Rattle.sugar_path.proofs.normal.climb_of.Goals as goal

-- a path has no more parts than bytes, and one
pub overflow_add-climb : goal.overflow_add-climb
overflow_add-climb c =
    let turn = YieldsList-turn (YieldsList-at c.into_iter-part-iterator.ensures.into_iter_gives
    (YieldsList-from_first (λ part. part.now) (λ left. left) (parts c.args.path.now) c.of-part-items.ensures))
    c.loop-part.yielded _ c.loop-part.yielded_by _ _ c.in-Some.part c.in-Some.is c.next.ensures.steps in
    record {
      fits = omega (
        arith,
        turn.0,
        c.loop-part.invariant.3,
        length-slice_split (λ b. b == 47) c.args.path.now,
        count_by-le-length (λ b. b == 47) c.args.path.now,
      );
    }

pub overflow_add-climb-in-Up-2 : goal.overflow_add-climb-in-Up-2
overflow_add-climb-in-Up-2 c =
    let turn = YieldsList-turn (YieldsList-at c.into_iter-part-iterator.ensures.into_iter_gives
    (YieldsList-from_first (λ part. part.now) (λ left. left) (parts c.args.path.now) c.of-part-items.ensures))
    c.loop-part.yielded _ c.loop-part.yielded_by _ _ c.in-Some.part c.in-Some.is c.next.ensures.steps in
    record {
      fits = omega (
        arith,
        turn.0,
        c.loop-part.invariant.3,
        length-slice_split (λ b. b == 47) c.args.path.now,
        count_by-le-length (λ b. b == 47) c.args.path.now,
      );
    }

pub loop-part-preserved-in-Nowhere : goal.loop-part-preserved-in-Nowhere
loop-part-preserved-in-Nowhere c = (
  search rules,
  search rules,
  seen-silent c.loop-part.yielded c.in-Some.part c.loop-part.climb c.loop-part.invariant.2 c.in-Nowhere.ensures,
  omega (arith, length_push c.loop-part.yielded c.in-Some.part),
)

pub loop-part-preserved-in-Down : goal.loop-part-preserved-in-Down
loop-part-preserved-in-Down c = (
  search rules,
  search rules,
  seen-plain c.loop-part.yielded c.in-Some.part c.loop-part.climb _ c.loop-part.invariant.2
      (down-plain c.in-Some.part.now c.in-Down.ensures) refl refl,
  omega (arith, length_push c.loop-part.yielded c.in-Some.part),
)

pub loop-part-preserved-then-climb-gt0 : goal.loop-part-preserved-then-climb-gt0
loop-part-preserved-then-climb-gt0 c = (
  search rules,
  search rules,
  seen-back c.loop-part.yielded c.in-Some.part c.loop-part.climb _ c.loop-part.invariant.2
      (up-dots c.in-Some.part.now c.in-Up.ensures) (λ e. omega arith) refl refl,
  omega (arith, length_push c.loop-part.yielded c.in-Some.part),
)

pub loop-part-preserved : goal.loop-part-preserved
loop-part-preserved c = (
  search rules,
  search rules,
  seen-up c.loop-part.yielded c.in-Some.part c.loop-part.climb _ c.loop-part.invariant.2
      (up-dots c.in-Some.part.now c.in-Up.ensures) (omega arith) refl refl,
  omega (arith, length_push c.loop-part.yielded c.in-Some.part),
)

pub returns : goal.returns
returns c =
    let all = YieldsList-end (YieldsList-at c.into_iter-part-iterator.ensures.into_iter_gives
    (YieldsList-from_first (λ part. part.now) (λ left. left) (parts c.args.path.now) c.of-part-items.ensures))
    c.loop-part.yielded _ c.loop-part.yielded_by _ _ c.in-None.is c.next.ensures.steps in
    let P : List (List ℕ) → Type 0 = λ xs. HasClimb (route_by_parts (Relative 0 []) xs) c.loop-part.climb in
    subst P all.0 c.loop-part.invariant.2
