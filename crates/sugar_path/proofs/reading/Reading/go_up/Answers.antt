use Rattle.std.proofs.Common.{◌++◌, take, refl, sym, ap, ◌∙◌, arith, length-take, take-take}
use Rattle.sugar_path.specs.Path.{with_slash}
use Rattle.sugar_path.specs.Reading.{read_text}
use Rattle.sugar_path.proofs.RouteTexts.{HasRead-up, HasRead-root, HasRead-above}
use Rattle.sugar_path.proofs.reading.Reading.go_up.Goals as goal

pub returns-then-self-clause-read : goal.returns-then-self-clause-read
returns-then-self-clause-read c = λ r h.
    let s = c.args.self.now in
    let len = c.front_len-self.result in
    HasRead-up r s _ h (omega arith)
    (λ front n stands name is.
    sym (take-take len s.len s.text.items (omega (
      arith,
      c.front_len-self.ensures.within,
      length-take s.len c.deref.result.now,
    )))
    ∙ ap (λ t. take len (take s.len t)) (sym c.deref.ensures.value)
    ∙ c.front_len-self.ensures.front front n stands name (ap (take s.len) c.deref.ensures.value ∙ is))
    (omega (arith, c.front_len-self.ensures.within, length-take s.len c.deref.result.now, h.within)) refl refl

pub returns-then-not-self-clause-read : goal.returns-then-not-self-clause-read
returns-then-not-self-clause-read c = λ r h.
    let down = c.go_down.new.self in
    HasRead-above r c.args.self.now _ h (omega arith) c.if-not-self.true
    (c.go_down.ensures.read ∙ ap (λ x. with_slash (read_text c.args.self.now) ++ x) c.requires.dots)
    (omega (arith, down.text.ok.0, c.go_down.ensures.passed.read, c.go_down.ensures.passed.size)) refl
    c.go_down.ensures.rooted

pub returns-else-not-self-clause-read : goal.returns-else-not-self-clause-read
returns-else-not-self-clause-read c = λ r h. HasRead-root r c.args.self.now h (omega arith) c.if-not-self.false
