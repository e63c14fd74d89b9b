-- Where names begin in a text.
use Rattle.std.specs.Prelude.{◌≡◌, ◌≢◌, ◌+◌, ℕ, List, get_or}

-- a byte that a name can begin with, other than a dot
abbrev pub IsStart : ℕ → Type 0
IsStart c = (c ≢ 46) × (c ≢ 47)

-- where a slash stands, such a byte follows
abbrev pub IsStartAt : List ℕ → ℕ → Type 0
IsStartAt t k = get_or t k 0 ≡ 47 → IsStart (get_or t (k + 1) 0)
