-- The numbers of npm's versions: `0`, or digits without a leading zero, at most the largest integer that JavaScript
-- counts exactly.
use Rattle.std.specs.Prelude.{ℕ, ◌+◌, ◌-◌, ◌*◌, Bool, ◌&&◌, nat_le, if◌then◌else◌, List, [], ◌∷◌, Option, Some, None}
use Rattle.semver.specs.Order.{is_numeric}
use Rattle.semver.specs.Grammar.{has_leading_zero}

-- 2 ^ 53 - 1
abbrev pub largest_number : ℕ
largest_number = 9007199254740991

-- whether npm can count the number
abbrev pub is_number : ℕ → Bool
is_number n = nat_le n largest_number

-- what the digits stand for, behind digits that stand for n
abbrev pub value_behind : ℕ → List ℕ → ℕ
value_behind n [] = n
value_behind n (d ∷ ds) = value_behind (n * 10 + (d - 48)) ds

-- what the digits stand for
abbrev pub value : List ℕ → ℕ
value ds = value_behind 0 ds

-- digits that stand for a number that isn't too large
abbrev pub counted : List ℕ → Option ℕ
counted ds = if is_numeric ds && is_number (value ds) then Some (value ds) else None

-- the number that a text writes
abbrev pub number : List ℕ → Option ℕ
number [] = None
number (d ∷ ds) = if has_leading_zero (d ∷ ds) then None else counted (d ∷ ds)
