use Rattle.std.proofs.Common.{◌≡◌, length}
use denote.Text.{Utf8}
use denote.Shadow.{shadow}
use Rattle.pnp_core.specs.Payload.{after_blanks}
use Rattle.pnp_core.proofs.payload.after_blanks.Given as goal

-- what is left has the answer
abbrev pub invariant-loop-behind : goal.invariant-loop-behind
invariant-loop-behind l = shadow (Utf8 l.rest) × (after_blanks l.rest ≡ after_blanks l.text)

abbrev pub decreases-loop-behind : goal.decreases-loop-behind
decreases-loop-behind l = length l.rest
