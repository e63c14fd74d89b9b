use Rattle.std.proofs.Common.{◌+◌, ◌-◌, ℕ, List, length, refl, ap, subst, ◌∙◌, arith}
use Rattle.std.specs.Global.{Vec}
use Rattle.std.proofs.lemmas.Bool.{false≢true}
use Rattle.es_pattern.specs.declared.step.Step.{Step}
use Rattle.es_pattern.specs.declared.step.Direction.TheVariants.{Forward}
use Rattle.es_pattern.specs.Pieces.{tree_of}
use Rattle.es_pattern.specs.Begins.{may_begin}
use Rattle.es_pattern.specs.Passing.{Passes}
use Rattle.es_pattern.specs.Program.{IsAlive}
use Rattle.es_pattern.proofs.Searching.{none_before, none_further, idle_till, found_here, found_nowhere}
use Rattle.es_pattern.proofs.NumberSets.{untaken_most}
use Rattle.es_pattern.proofs.TurnCounts.{one_place}
use Rattle.es_pattern.proofs.search.Search.is_found.Goals as goal

pub returns-then-branch-clause-found : goal.returns-then-branch-clause-found
returns-then-branch-clause-found g c =
    let pieces = c.args.self.now.pieces.now in
    let text = c.args.self.now.text.now in
    let steps = c.args.self.now.program.now.steps.items in
    let begins = may_begin (tree_of pieces) text in
    let place = c.in-Some.place in
    let next = rw c.in-Some.is at c.next_place.ensures in
    let arrived = idle_till pieces text begins steps c.loop-place.alive c.loop-place.from place next.0 next.2
    c.loop-place.invariant.arrives c.loop-place.invariant.none in
    let passed = c.in_ok-pass.ensures.passed begins (c.in_ok-begin_at.ensures.begun arrived.0) in
    let alive = subst (λ (s : List Step). IsAlive (Passes Forward pieces text) begins s (length s) place)
    c.requires.steps (passed.ends c.if-branch.true) in
    (λ yes_. found_here pieces text place alive, λ f. refl)

pub loop-place-preserved : goal.loop-place-preserved
loop-place-preserved g c =
    let pieces = c.args.self.now.pieces.now in
    let text = c.args.self.now.text.now in
    let steps = c.args.self.now.program.now.steps.items in
    let begins = may_begin (tree_of pieces) text in
    let place = c.in-Some.place in
    let next = rw c.in-Some.is at c.next_place.ensures in
    let arrived = idle_till pieces text begins steps c.loop-place.alive c.loop-place.from place next.0 next.2
    c.loop-place.invariant.arrives c.loop-place.invariant.none in
    let passed = c.in_ok-pass.ensures.passed begins (c.in_ok-begin_at.ensures.begun arrived.0) in
    record {
      told = c.in_ok-pass.ensures.told;
      room = omega (arith, c.pass.ensures.room, c.begin_at.ensures.room, c.loop-place.invariant.room);
      within = omega (arith, next.1);
      arrives = passed.arrives;
      few = c.in_ok-pass.ensures.few (ap (λ (v : Vec ℕ). v.items) c.begin_at.ensures.next
          ∙ c.loop-place.invariant.arrives.none_next);
      turned = omega (
        arith,
        c.in_ok-pass.ensures.turns,
        c.in_ok-begin_at.ensures.one,
        c.loop-place.invariant.few,
        c.loop-place.invariant.turned,
        untaken_most c.begin_at.new.alive.taken.words.items (length steps + 1),
        one_place (length text + 1 - c.loop-place.from) (length text + 1 - (place + 1)) (length steps)
            (omega (arith, next.0, next.1)),
      );
      none = none_further pieces text begins steps place arrived.1 (passed.ends_not c.if-branch.false);
    }

pub returns-clause-found : goal.returns-clause-found
returns-clause-found g c =
    let pieces = c.args.self.now.pieces.now in
    let text = c.args.self.now.text.now in
    let begins = may_begin (tree_of pieces) text in
    let idle = rw c.in_default.is at c.next_place.ensures in
    let all = idle_till pieces text begins c.args.self.now.program.now.steps.items c.loop-place.alive c.loop-place.from
    (length text + 1) c.loop-place.invariant.within idle c.loop-place.invariant.arrives
    c.loop-place.invariant.none in
    let nowhere =
    subst (λ (s : List Step). none_before pieces text begins s (length text + 1)) c.requires.steps all.1 in (
      λ yes_. absurd (false≢true yes_),
      λ f. absurd (found_nowhere pieces text (length text + 1) (omega arith) nowhere
          f),
    )

pub returns-then-branch-clause-turns : goal.returns-then-branch-clause-turns
returns-then-branch-clause-turns g c =
    let text = c.args.self.now.text.now in
    let steps = c.args.self.now.program.now.steps.items in
    let next = rw c.in-Some.is at c.next_place.ensures in
    omega (
      arith,
      c.in_ok-pass.ensures.turns,
      c.in_ok-begin_at.ensures.one,
      c.loop-place.invariant.few,
      c.loop-place.invariant.turned,
      untaken_most c.begin_at.new.alive.taken.words.items (length steps + 1),
      one_place (length text + 1 - c.loop-place.from) (length text + 1 - (c.in-Some.place + 1)) (length steps)
          (omega (arith, next.0, next.1)),
    )
