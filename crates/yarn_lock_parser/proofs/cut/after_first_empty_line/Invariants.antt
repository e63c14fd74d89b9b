use Rattle.std.proofs.Common.{◌≡◌, length}
use denote.Text.{Utf8}
use denote.Shadow.{shadow}
use Rattle.yarn_lock_parser.specs.Cut.{after_first_empty_line}
use Rattle.yarn_lock_parser.proofs.cut.after_first_empty_line.Given as goal

-- what is left has the answer
abbrev pub invariant-loop-behind : goal.invariant-loop-behind
invariant-loop-behind l = shadow (Utf8 l.rest) × (after_first_empty_line l.rest ≡ after_first_empty_line l.text)

abbrev pub decreases-loop-behind : goal.decreases-loop-behind
decreases-loop-behind l = length l.rest
