-- A count as it is written.
use Rattle.std.specs.Prelude.{ℕ, zero, suc, ◌+◌, ◌/◌, ◌%◌, nat_lt, if◌then◌else◌, List, [], ◌∷◌, ◌++◌}

-- the last decimal digits of a number, this many at most
abbrev pub last_digits : ℕ → ℕ → List ℕ
last_digits zero n = []
last_digits (suc k) n = if nat_lt n 10 then (48 + n) ∷ [] else last_digits k (n / 10) ++ (48 + n % 10) ∷ []

-- a count in decimal, without a zero in front: a number has fewer digits than its successor counts
unfoldable pub count_text : ℕ → List ℕ
count_text n = last_digits (suc n) n
