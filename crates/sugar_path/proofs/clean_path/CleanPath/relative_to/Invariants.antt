use Rattle.std.proofs.Common.{◌≡◌, ◌++◌, length}
use Rattle.std.specs.Prelude.{string_bytes}
use Rattle.sugar_path.proofs.Upwards.{parts_from}
use Rattle.sugar_path.proofs.clean_path.CleanPath.relative_to.Given as goal

-- what is left is the way from the folder that was reached
abbrev pub invariant-up : goal.invariant-up
invariant-up l = parts_from l.base l.self ≡ string_bytes l.text ++ parts_from l.above l.self

abbrev pub decreases-up : goal.decreases-up
decreases-up l = length l.above
