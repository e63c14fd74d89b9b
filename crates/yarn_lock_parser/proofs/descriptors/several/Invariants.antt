use Rattle.std.proofs.Common.{◌≡◌, ◌∷◌, [], length}
use denote.Text.{Utf8}
use denote.Shadow.{shadow}
use Rattle.yarn_lock_parser.proofs.Parted.{found_at}
use Rattle.yarn_lock_parser.proofs.descriptors.several.Given as goal

-- what is found and what is left are the whole
abbrev pub invariant-loop-descriptor : goal.invariant-loop-descriptor
invariant-loop-descriptor l = shadow (Utf8 l.rest) × (found_at l.found.items l.rest ≡ found_at (l.fn.first ∷ []) l.list)

abbrev pub decreases-loop-descriptor : goal.decreases-loop-descriptor
decreases-loop-descriptor l = length l.rest
