use Rattle.std.proofs.Common.{◌≡◌, length}
use denote.Text.{Utf8}
use denote.Shadow.{shadow}
use Rattle.yarn_lock_parser.specs.Front.{every}
use Rattle.yarn_lock_parser.specs.Dependencies.{dependency_at}
use Rattle.yarn_lock_parser.proofs.Every.{onto}
use Rattle.yarn_lock_parser.proofs.dependencies.every_dependency.Given as goal

-- what is found and what is left are the whole
abbrev pub invariant-loop-pair : goal.invariant-loop-pair
invariant-loop-pair l = shadow (Utf8 l.rest) × (onto l.found.items (every (dependency_at l.indent) l.rest) ≡ every
    (dependency_at l.indent) l.text)

abbrev pub decreases-loop-pair : goal.decreases-loop-pair
decreases-loop-pair l = length l.rest
