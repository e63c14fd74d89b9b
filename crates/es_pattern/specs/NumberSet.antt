-- Which numbers a set has, that is kept as the bits of words. Contracts of private functions alone cite it.
use Rattle.std.specs.Prelude.{◌≡◌, ℕ, ◌/◌, ◌%◌, ◌==◌, Bool, true, List, get_or}
use Rattle.std.specs.Int.{bit_at}

-- whether the number is in the set: its bit is 1
abbrev pub has : List ℕ → ℕ → Bool
has words n = bit_at (get_or words (n / 64) 0) (n % 64) == 1

-- the number is in the set
abbrev pub Has : List ℕ → ℕ → Type 0
Has words n = has words n ≡ true
