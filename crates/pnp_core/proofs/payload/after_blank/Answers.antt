use Rattle.std.proofs.Common.{refl, rules}
use Rattle.pnp_core.proofs.Payloads.{after_blank-char}
use Rattle.pnp_core.proofs.payload.after_blank.Goals as goal

pub returns-then-is_blank : goal.returns-then-is_blank
returns-then-is_blank c =
    let blank = rw c.is_blank.ensures at c.if-is_blank.true in
    rw (← c.chars-chars.ensures.rest, c.in_ok-first.ensures.steps.0, after_blank-char c.in_ok-first.first, blank)
    (search rules)

pub returns-else-is_blank : goal.returns-else-is_blank
returns-else-is_blank c =
    let other = rw c.is_blank.ensures at c.if-is_blank.false in
    rw (← c.chars-chars.ensures.rest, c.in_ok-first.ensures.steps.0, after_blank-char c.in_ok-first.first, other) refl
