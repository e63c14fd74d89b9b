use Rattle.std.proofs.Common.{◌≡◌, length}
use denote.Text.{Utf8}
use denote.Shadow.{shadow}
use Rattle.pnp_core.specs.Payload.{after_leftmost}
use Rattle.pnp_core.proofs.payload.after_leftmost.Given as goal

-- what is left has the answer
abbrev pub invariant-loop-quoted : goal.invariant-loop-quoted
invariant-loop-quoted l = shadow (Utf8 l.rest) × (after_leftmost l.rest ≡ after_leftmost l.text)

abbrev pub decreases-loop-quoted : goal.decreases-loop-quoted
decreases-loop-quoted l = length l.rest
