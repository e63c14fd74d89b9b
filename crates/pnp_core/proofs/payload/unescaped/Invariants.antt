use Rattle.std.proofs.Common.{◌≡◌, ◌++◌, length, string_bytes}
use denote.Shadow.{shadow}
use denote.Text.{Utf8}
use Rattle.pnp_core.specs.Payload.{quoted}
use Rattle.pnp_core.proofs.payload.unescaped.Given as goal

-- what is made and what is left are the whole
abbrev pub invariant-loop-at : goal.invariant-loop-at
invariant-loop-at l = shadow (Utf8 l.rest) × (string_bytes l.made ++ quoted l.rest ≡ quoted l.text)

abbrev pub decreases-loop-at : goal.decreases-loop-at
decreases-loop-at l = length l.rest
