use Rattle.std.proofs.Common.{◌≡◌, ◌+◌, ◌≤◌, [], length, refl, sym, subst, ◌∙◌, ap, arith, length-append}
use Rattle.std.specs.Prelude.{slice_get, Some, None}
use Rattle.std.proofs.lemmas.Option.{gets, slice_get_within}
use Rattle.std.proofs.lemmas.List.{append-nil}
use Rattle.std.proofs.lemmas.Grind.{common_steps}
use Rattle.es_pattern.specs.declared.step.Step.{Step}
use Rattle.es_pattern.specs.declared.step.Step.TheVariants.{Pass}
use Rattle.es_pattern.specs.declared.alive.Passing.{Passing}
use Rattle.es_pattern.specs.Passing.{PassesAs}
use Rattle.es_pattern.specs.Alive.{same_place, next_place}
use Rattle.es_pattern.proofs.NumberSets.{untaken_less, untaken_fewer}
use Rattle.es_pattern.proofs.Alives.{StepAs, leads_none, leads_step, few_same, few_next, other_step, settling_taken}
use Rattle.es_pattern.proofs.search.Search.take.Goals as goal
use Rattle.es_pattern.proofs.search.Search.take.Goals.{in-Pass+in-Some-passing, in_default-step}

pub returns-in_default-clause-taken : goal.returns-in_default-clause-taken
returns-in_default-clause-taken c = λ begins s.
    let pieces = c.args.self.now.pieces.now in
    let text = c.args.self.now.text.now in
    let steps = c.args.walk.now.steps.now in
    let alive = c.args.alive.now in
    let none : slice_get steps c.args.at ≡ None = grind (arith, common_steps, gets) in
    let out : length steps ≤ c.args.at = grind (arith, common_steps, gets) in
    let taken = settling_taken c.args.walk.now.direction pieces text begins steps c.args.walk.now.place
    alive.waiting.items alive.taken.words.items alive.next.items c.args.at [] [] c.insert.new.self.words.items s
    (leads_none c.args.walk.now.direction pieces text steps c.args.at c.args.walk.now.place none)
    (λ le. c.insert.ensures.added (omega (arith, le, c.requires.room))) c.insert.ensures.kept
    c.insert.ensures.none_else in
    rw (append-nil alive.waiting.items, append-nil alive.next.items) at taken

pub returns-in_default-clause-lighter : goal.returns-in_default-clause-lighter
returns-in_default-clause-lighter c = λ e.
    let less = untaken_less c.args.alive.now.taken.words.items c.insert.new.self.words.items
    (length c.args.walk.now.steps.now + 1) c.insert.ensures.kept in
    omega (arith, less)

pub returns-in_default-passing-clause-asked : goal.returns-in_default-passing-clause-asked
returns-in_default-passing-clause-asked c =
    let stands : slice_get c.args.walk.now.steps.now c.args.at ≡ Some (Pass c.in-Pass.number) =
    grind (arith, common_steps, gets) in
    record { at = c.args.at; passes = stands; untold = c.in_default-passing.ensures }

pub returns-clause-taken : goal.returns-clause-taken
returns-clause-taken c = λ begins s.
    let pieces = c.args.self.now.pieces.now in
    let text = c.args.self.now.text.now in
    let steps = c.args.walk.now.steps.now in
    let alive = c.args.alive.now in
    let step = c.in-Some.step.now in
    let passing = c.match-step.passing in
    let stands : slice_get steps c.args.at ≡ Some step = grind (arith, common_steps, gets) in
    let does : StepAs c.args.walk.now.direction pieces text c.args.walk.now.place step passing =
    elim c.match-step.branch [
      | in-Pass+in-Some-passing w ↦
          subst (λ (s : Step). StepAs c.args.walk.now.direction pieces text c.args.walk.now.place s passing)
          (sym w.in-Pass.is) (subst (λ (p : Passing). PassesAs c.args.walk.now.direction pieces text w.in-Pass.number
          c.args.walk.now.place p) (sym w.passing-is) w.in-Some-passing.ensures)
      | in_default-step w ↦
          other_step c.args.walk.now.direction pieces text c.args.walk.now.place step passing w.in_default-step.not-Pass
    ] in
    let taken = settling_taken c.args.walk.now.direction pieces text begins steps c.args.walk.now.place
    alive.waiting.items alive.taken.words.items alive.next.items c.args.at
    (same_place step c.args.at (length steps) passing) (next_place step c.args.at passing)
    c.take.new.self.taken.words.items s
    (leads_step c.args.walk.now.direction pieces text steps c.args.at c.args.walk.now.place step passing stands does)
    (λ le. c.in_ok-take.ensures.added (omega (arith, le, c.requires.room))) c.in_ok-take.ensures.kept
    c.in_ok-take.ensures.none_else in
    rw (c.in_ok-take.ensures.waiting, c.in_ok-take.ensures.next) taken

pub returns-clause-lighter : goal.returns-clause-lighter
returns-clause-lighter c = λ e.
    let steps = c.args.walk.now.steps.now in
    let old = c.args.alive.now.taken.words.items in
    let step = c.in-Some.step.now in
    let same = same_place step c.args.at (length steps) c.match-step.passing in
    let stands : slice_get steps c.args.at ≡ Some step = grind (arith, common_steps, gets) in
    let lt = slice_get_within steps c.args.at step stands in
    let added = c.in_ok-take.ensures.added (omega (arith, c.requires.room, lt)) in
    let fewer = untaken_fewer old c.take.new.self.taken.words.items (length steps + 1) c.args.at
    c.in_ok-take.ensures.kept c.requires.fresh added (omega arith) in
    let waits : length c.take.new.self.waiting.items ≡ length c.args.alive.now.waiting.items + length same =
    ap length c.in_ok-take.ensures.waiting ∙ length-append c.args.alive.now.waiting.items same in
    omega (arith, fewer, waits, few_same step c.args.at (length steps) c.match-step.passing)

pub returns-in_default-clause-few : goal.returns-in_default-clause-few
returns-in_default-clause-few c = omega (
  arith,
  untaken_less c.args.alive.now.taken.words.items c.insert.new.self.words.items (length c.args.walk.now.steps.now + 1)
      c.insert.ensures.kept,
)

pub returns-clause-few : goal.returns-clause-few
returns-clause-few c =
    let steps = c.args.walk.now.steps.now in
    let old = c.args.alive.now.taken.words.items in
    let step = c.in-Some.step.now in
    let next = next_place step c.args.at c.match-step.passing in
    let stands : slice_get steps c.args.at ≡ Some step = grind (arith, common_steps, gets) in
    let lt = slice_get_within steps c.args.at step stands in
    let added = c.in_ok-take.ensures.added (omega (arith, c.requires.room, lt)) in
    let fewer = untaken_fewer old c.take.new.self.taken.words.items (length steps + 1) c.args.at
    c.in_ok-take.ensures.kept c.requires.fresh added (omega arith) in
    let come : length c.take.new.self.next.items ≡ length c.args.alive.now.next.items + length next =
    ap length c.in_ok-take.ensures.next ∙ length-append c.args.alive.now.next.items next in
    omega (arith, fewer, come, few_next step c.args.at c.match-step.passing)

pub returns-in_default-clause-again : goal.returns-in_default-clause-again
returns-in_default-clause-again c = let lighter = returns-in_default-clause-lighter c refl in omega (arith, lighter)

pub returns-clause-again : goal.returns-clause-again
returns-clause-again c = let lighter = returns-clause-lighter c refl in omega (arith, lighter)
