use Rattle.std.proofs.Common.{
  ◌≡◌,
  ◌+◌,
  ◌-◌,
  ◌++◌,
  ◌∷◌,
  [],
  List,
  ℕ,
  Bool,
  length,
  subst,
  sym,
  ap,
  ◌∙◌,
  arith,
  length-append,
}
use Rattle.std.specs.Prelude.{slice_get, Some, MatchOption}
use Rattle.std.specs.Global.{Vec}
use Rattle.std.proofs.lemmas.Bool.{le-leb}
use Rattle.std.proofs.lemmas.Option.{gets}
use Rattle.std.proofs.lemmas.Grind.{common_steps}
use Rattle.es_pattern.specs.declared.step.Step.{Step}
use Rattle.es_pattern.specs.declared.step.Direction.TheVariants.{Backward}
use Rattle.es_pattern.specs.declared.number_set.NumberSet.{NumberSet}
use Rattle.es_pattern.specs.NumberSet.{has}
use Rattle.es_pattern.specs.Spans.{differs}
use Rattle.es_pattern.specs.Passing.{IsAsked}
use Rattle.es_pattern.specs.Alive.{SettlingBy, SettledBy}
use Rattle.es_pattern.specs.Compiled.{part_steps}
use Rattle.es_pattern.specs.Turns.{pass_turns}
use Rattle.es_pattern.proofs.NumberSets.{untaken_most}
use Rattle.es_pattern.proofs.TurnCounts.{one_place}
use Rattle.es_pattern.proofs.Passings.{differs_is}
use Rattle.es_pattern.proofs.Searching.{
  in_text,
  first_backward,
  first_by,
  begun_by,
  next_by,
  none_asked,
  answers_here,
  tabling_none,
  tabling_more,
  tabling_all,
  the_part,
}
use Rattle.es_pattern.proofs.search.Search.table_of.Goals as goal

pub loop-behind-init : goal.loop-behind-init
loop-behind-init g c =
    let pieces = c.args.self.now.pieces.now in
    let text = c.args.self.now.text.now in
    let steps = part_steps Backward pieces c.args.number in
    let stands : slice_get c.args.self.now.program.now.lookaheads.items c.args.number ≡ Some c.index-steps.result.now =
    grind (arith, common_steps, gets) in
    let part = the_part pieces c.args.self.now.program.now.lookaheads.items c.args.number c.args.negated
    c.index-steps.result.now c.requires.program.lookaheads c.requires.stands stands in
    let size : length steps ≡ c.len.result =
    omega (arith, ap length part, c.len.ensures, c.index-steps.result.now.ok.0) in
    record {
      room = omega (arith, size, c.in_ok-alive.ensures.room);
      arrives = λ le. first_by Backward pieces text (in_text text) steps (length text - 0) c.in_ok-alive.alive
          (λ at j a after. first_backward pieces text steps at j a (omega (arith, after))) c.in_ok-alive.ensures.waiting
          c.in_ok-alive.ensures.next c.in_ok-alive.ensures.taken;
      few = omega (arith, ap length c.in_ok-alive.ensures.waiting);
      turned = let all : length text + 1 - 0 ≡ length text + 1 = omega arith in
          omega (arith, ap (λ (n : ℕ). pass_turns n (length steps)) all);
      tabled = tabling_none pieces text c.args.number c.new-table.result.items c.new-table.ensures.items;
    }

pub settle-requires-clause-room : goal.settle-requires-clause-room
settle-requires-clause-room g c =
    let pieces = c.args.self.now.pieces.now in
    let stands : slice_get c.args.self.now.program.now.lookaheads.items c.args.number ≡ Some c.index-steps.result.now =
    grind (arith, common_steps, gets) in
    let part = the_part pieces c.args.self.now.program.now.lookaheads.items c.args.number c.args.negated
    c.index-steps.result.now c.requires.program.lookaheads c.requires.stands stands in
    omega (
      arith,
      ap length (c.deref.ensures.value ∙ part),
      ap (λ (s : NumberSet). length s.words.items) c.in_ok-begin.ensures.taken,
      c.loop-behind.invariant.room,
    )

pub loop-behind-preserved : goal.loop-behind-preserved
loop-behind-preserved g c =
    let pieces = c.args.self.now.pieces.now in
    let text = c.args.self.now.text.now in
    let steps = part_steps Backward pieces c.args.number in
    let place = length text - c.loop-behind.behind in
    let stands : slice_get c.args.self.now.program.now.lookaheads.items c.args.number ≡ Some c.index-steps.result.now =
    grind (arith, common_steps, gets) in
    let part = the_part pieces c.args.self.now.program.now.lookaheads.items c.args.number c.args.negated
    c.index-steps.result.now c.requires.program.lookaheads c.requires.stands stands in
    let same : c.deref.result.now ≡ steps = c.deref.ensures.value ∙ part in
    let begun = begun_by Backward pieces text (in_text text) steps place c.loop-behind.alive c.begin.new.self
    c.in_ok-begin.ensures.waiting c.in_ok-begin.ensures.taken c.in_ok-begin.ensures.next
    (le-leb place (length text) (omega arith)) (c.loop-behind.invariant.arrives (omega arith)) in
    let asked : MatchOption c.in_ok-_asked._asked (Unit {0}) (IsAsked pieces c.args.tables.now steps)
    = subst (λ (s : List Step). MatchOption c.in_ok-_asked._asked (Unit {0}) (IsAsked pieces c.args.tables.now s)) same
    c.in_ok-_asked.ensures.asked in
    let comes : (begins : ℕ → Bool) → SettlingBy Backward pieces text begins steps place c.begin.new.self
    → MatchOption c.in_ok-_asked._asked (SettledBy Backward pieces text begins steps place c.settle.new.alive)
    (λ k. SettlingBy Backward pieces text begins steps place c.settle.new.alive)
    = subst (λ (s : List Step). (begins : ℕ → Bool) → SettlingBy Backward pieces text begins s place c.begin.new.self
    → MatchOption c.in_ok-_asked._asked (SettledBy Backward pieces text begins s place c.settle.new.alive)
    (λ k. SettlingBy Backward pieces text begins s place c.settle.new.alive)) same c.in_ok-_asked.ensures.settled in
    let settled = none_asked pieces c.args.tables.now steps c.in_ok-_asked._asked
    (SettledBy Backward pieces text (in_text text) steps place c.settle.new.alive)
    (λ k. SettlingBy Backward pieces text (in_text text) steps place c.settle.new.alive) asked c.requires.ready
    (comes (in_text text) begun) in
    let size : length steps ≡ c.len-in-loop-behind.result =
    omega (arith, ap length part, c.len-in-loop-behind.ensures, c.index-steps.result.now.ok.0) in
    let found : c.contains.result ≡ has c.settle.new.alive.taken.words.items (length steps) =
    c.contains.ensures ∙ ap (has c.settle.new.alive.taken.words.items) (sym size) in
    let answer = answers_here pieces text c.args.number c.args.negated c.requires.stands place c.contains.result
    c.settle.new.alive.waiting.items c.settle.new.alive.taken.words.items c.settle.new.alive.next.items
    (omega arith) settled found in
    let size = length c.deref.result.now in
    let waits : length c.begin.new.self.waiting.items ≡ length c.loop-behind.alive.waiting.items + 1 =
    ap length c.in_ok-begin.ensures.waiting ∙ length-append c.loop-behind.alive.waiting.items (0 ∷ []) in
    let none : length c.begin.new.self.next.items ≡ 0 = ap (λ (v : Vec ℕ). length v.items) c.in_ok-begin.ensures.next
    ∙ ap length (c.loop-behind.invariant.arrives (omega arith)).none_next in
    let most = untaken_most c.begin.new.self.taken.words.items (size + 1) in
    record {
      room = omega (
        arith,
        c.go_on.ensures.room,
        c.settle.ensures.room,
        ap (λ (s : NumberSet). length s.words.items) c.in_ok-begin.ensures.taken,
        c.loop-behind.invariant.room,
      );
      arrives = λ le. next_by Backward pieces text (in_text text) steps place (length text - (c.loop-behind.behind + 1))
          c.settle.new.alive c.go_on.new.self (omega arith) c.go_on.ensures.waiting c.go_on.ensures.next
          c.go_on.ensures.taken settled;
      few = omega (
        arith,
        ap length same,
        none,
        most,
        c.in_ok-_asked.ensures.few,
        ap (λ (v : Vec ℕ). length v.items) c.go_on.ensures.waiting,
      );
      turned = omega (
        arith,
        ap length same,
        waits,
        most,
        c.in_ok-_asked.ensures.turns,
        c.loop-behind.invariant.few,
        c.loop-behind.invariant.turned,
        one_place (length text + 1 - c.loop-behind.behind) (length text + 1 - (c.loop-behind.behind + 1)) (length steps)
            (omega arith),
      );
      tabled = tabling_more pieces text c.args.number c.loop-behind.behind c.loop-behind.table.items
          c.push.new.self.items (differs c.args.negated c.contains.result) c.loop-behind.invariant.tabled
          (c.in_ok-push.ensures.items ∙ ap (λ (b : Bool). c.loop-behind.table.items ++ b ∷ [])
          (differs_is c.args.negated c.contains.result)) answer;
    }

pub returns-clause-table : goal.returns-clause-table
returns-clause-table g c = tabling_all c.args.self.now.pieces.now c.args.self.now.text.now c.args.number
    c.loop-behind.behind c.loop-behind.table.items (omega arith) c.loop-behind.invariant.tabled
