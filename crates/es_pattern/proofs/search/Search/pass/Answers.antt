use Rattle.std.proofs.Common.{◌≡◌, ◌+◌, ℕ, length, ap, ◌∙◌, sym, arith}
use Rattle.std.specs.Global.{Vec}
use Rattle.es_pattern.specs.NumberSet.{has}
use Rattle.es_pattern.proofs.NumberSets.{untaken_most}
use Rattle.es_pattern.proofs.Searching.{passed_by}
use Rattle.es_pattern.proofs.search.Search.pass.Goals as goal

pub returns-clause-passed : goal.returns-clause-passed
returns-clause-passed g c = λ begins s.
    let program = c.args.self.now.program.now in
    let size : length program.steps.items ≡ c.len.result = omega (arith, c.len.ensures, program.steps.ok.0) in
    passed_by c.args.self.now.pieces.now c.args.self.now.text.now begins program.steps.items c.args.place
    c.contains-ended.result c.advance.new.alive c.go_on.new.self
    (c.contains-ended.ensures ∙ ap (has c.advance.new.alive.taken.words.items) (sym size)) c.go_on.ensures.waiting
    c.go_on.ensures.next c.go_on.ensures.taken (c.in_ok-advance.ensures.settled begins s)

pub returns-clause-few : goal.returns-clause-few
returns-clause-few g c = λ none.
    let size = length c.args.self.now.program.now.steps.items in
    let waits = ap (λ (v : Vec ℕ). length v.items) c.go_on.ensures.waiting in
    omega (
      arith,
      waits,
      ap length none,
      c.in_ok-advance.ensures.few,
      untaken_most c.args.alive.now.taken.words.items (size + 1),
    )
