use Rattle.std.proofs.Common.{◌≡◌, length}
use denote.Text.{Utf8}
use denote.Shadow.{shadow}
use Rattle.npm_req.specs.Front.{before_all, is_blank}
use Rattle.npm_req.proofs.front.before_blanks.Given as goal

-- what is left has the answer
abbrev pub invariant-loop-front : goal.invariant-loop-front
invariant-loop-front l = shadow (Utf8 l.rest) × (before_all is_blank l.rest ≡ before_all is_blank l.text)

abbrev pub decreases-loop-front : goal.decreases-loop-front
decreases-loop-front l = length l.rest
