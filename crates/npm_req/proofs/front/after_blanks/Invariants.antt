use Rattle.std.proofs.Common.{◌≡◌, ◌≤◌, length}
use denote.Text.{Utf8}
use denote.Shadow.{shadow}
use Rattle.npm_req.specs.Front.{after_all, is_blank}
use Rattle.npm_req.proofs.front.after_blanks.Given as goal

-- what is left has the answer
abbrev pub invariant-loop-behind : goal.invariant-loop-behind
invariant-loop-behind l =
    shadow (Utf8 l.rest) × (after_all is_blank l.rest ≡ after_all is_blank l.text) × (length l.rest ≤ length l.text)

abbrev pub decreases-loop-behind : goal.decreases-loop-behind
decreases-loop-behind l = length l.rest
