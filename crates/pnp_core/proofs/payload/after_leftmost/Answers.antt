use Rattle.std.proofs.Common.{sym, ◌∙◌, rules}
use Rattle.pnp_core.proofs.Payloads.{leftmost-here, leftmost-char}
use Rattle.pnp_core.proofs.payload.after_leftmost.Goals as goal

pub returns-in-Some : goal.returns-in-Some
returns-in-Some c =
    let here = rw c.in-Some.is at c.after_opening.ensures in
    sym (leftmost-here c.loop-quoted.rest.now c.in-Some.quoted.now (sym here)) ∙ c.loop-quoted.invariant.1

pub loop-quoted-preserved : goal.loop-quoted-preserved
loop-quoted-preserved c =
    let none = rw c.in_default.is at c.after_opening.ensures in
    let char = rw c.chars-chars.ensures.rest at c.in-Some-next.ensures.steps.0 in (
      search rules,
      rw c.as_str-rest.ensures
          (sym (leftmost-char c.in-Some-next.field-0 c.next.new.self.rest.now (rw char at (sym none)))
          ∙ (rw char at c.loop-quoted.invariant.1)),
    )
