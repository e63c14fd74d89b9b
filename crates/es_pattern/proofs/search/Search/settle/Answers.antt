use Rattle.std.proofs.Common.{◌≡◌, ◌+◌, [], ◌∷◌, List, ℕ, length, sym, ap, subst, ◌∙◌, arith, length-append}
use Rattle.std.proofs.lemmas.List.{append-nil, nil_from_length}
use Rattle.es_pattern.specs.Passing.{Passes}
use Rattle.es_pattern.specs.NumberSet.{Has}
use Rattle.es_pattern.specs.Alive.{Settling}
use Rattle.es_pattern.proofs.Alives.{settling_dropped, settled_by}
use Rattle.es_pattern.proofs.search.Search.settle.Goals as goal

pub loop-at-preserved : goal.loop-at-preserved
loop-at-preserved g c = record {
  room = c.loop-at.invariant.room;
  few = c.loop-at.invariant.few;
  turned =
      let waits : length c.loop-at.alive.waiting.items ≡ length c.pop.new.self.items + 1 =
      ap length c.in-Some.ensures.items ∙ length-append c.pop.new.self.items (c.in-Some.at ∷ []) in
      omega (arith, waits, c.tick.ensures, c.loop-at.invariant.turned);
  kept = λ begins s.
      let pieces = c.args.self.now.pieces.now in
      let text = c.args.self.now.text.now in
      let steps = c.args.walk.now.steps.now in
      let alive = c.loop-at.alive in
      let was : Has alive.taken.words.items c.in-Some.at = sym c.contains.ensures ∙ c.if-not-contains.false in
      settling_dropped c.args.walk.now.direction pieces text begins steps c.args.walk.now.place c.pop.new.self.items
      alive.taken.words.items alive.next.items c.in-Some.at
      (subst (λ (w : List ℕ). Settling c.args.walk.now.direction (Passes c.args.walk.now.direction pieces text) begins
      steps c.args.walk.now.place w alive.taken.words.items alive.next.items) c.in-Some.ensures.items
      (c.loop-at.invariant.kept begins s)) was;
}

pub returns-clause-settled : goal.returns-clause-settled
returns-clause-settled g c = λ begins s.
    let pieces = c.args.self.now.pieces.now in
    let text = c.args.self.now.text.now in
    let steps = c.args.walk.now.steps.now in
    let alive = c.loop-at.alive in
    let empty : alive.waiting.items ≡ [] =
    nil_from_length alive.waiting.items (omega (arith, c.in_default.ensures.cases, alive.waiting.ok.0)) in
    let same : alive.waiting.items ≡ c.pop.new.self.items =
    c.in_default.ensures.items ∙ append-nil c.pop.new.self.items in
    settled_by c.args.walk.now.direction pieces text begins steps c.args.walk.now.place c.pop.new.self.items
    alive.taken.words.items alive.next.items (sym same ∙ empty)
    (subst (λ (w : List ℕ). Settling c.args.walk.now.direction (Passes c.args.walk.now.direction pieces text) begins
    steps c.args.walk.now.place w alive.taken.words.items alive.next.items) same
    (c.loop-at.invariant.kept begins s))
