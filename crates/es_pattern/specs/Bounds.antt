-- The bounds in braces, with counts above the limit cut off.
use Prim.Native.Char.{code}
use Rattle.std.specs.Prelude.{◌≡◌, ℕ, ◌-◌, min, List, ◌++◌, length, replicate, Option, Some, None, option_map}
use Rattle.es_pattern.specs.declared.braces.Bounds.{Bounds}
use Rattle.es_pattern.specs.Spans.{IsUpTo}
use Rattle.es_pattern.specs.Grammar.{number}

-- digits with zeros before them
abbrev pub padded : ℕ → List ℕ → List ℕ
padded width digits = replicate (width - length digits) (code "0") ++ digits

-- the number of the digits, and each above the limit as the first above it
abbrev pub Counts : List ℕ → Option ℕ → Type 0
Counts digits None = number digits ≡ None
Counts digits (Some count) = (n : ℕ) × (number digits ≡ Some n) × (count ≡ min n 1001)

-- the bounds that were read, each count above the limit as the first above it
abbrev pub Bounded : Option (ℕ × Option ℕ) → Option Bounds → Type 0
Bounded bounds None = bounds ≡ None
Bounded bounds (Some b) = (n : ℕ) × (m : Option ℕ) × (bounds ≡ Some (n, m)) × (b.least ≡ min n 1001)
    × (b.most ≡ option_map (λ k. min k 1001) m) × IsUpTo m n
