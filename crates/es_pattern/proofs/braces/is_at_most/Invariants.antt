use Rattle.std.proofs.Common.{◌≡◌, take}
use Rattle.es_pattern.specs.Bounds.{padded}
use Rattle.es_pattern.proofs.braces.is_at_most.Given as goal

abbrev pub invariant-loop-place : goal.invariant-loop-place
invariant-loop-place l = take l.place (padded l.width l.least) ≡ take l.place (padded l.width l.most)
