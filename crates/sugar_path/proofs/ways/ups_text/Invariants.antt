use Rattle.std.proofs.Common.{◌≡◌, ◌∷◌, [], replicate}
use Rattle.sugar_path.specs.Names.{closed}
use Rattle.sugar_path.proofs.ways.ups_text.Given as goal

-- the `..` so far
abbrev pub invariant-loop : goal.invariant-loop
invariant-loop l = l.text.items ≡ closed (replicate l.counter (46 ∷ 46 ∷ []))
