-- Readings of a text's front: what the front says, or nothing where it doesn't fit. The first of two that fits is std's
-- `option_or`. A `do` over `◌>>=◌` here is of results that may be missing: it ends at the first reading that doesn't
-- fit.
use Rattle.std.specs.Prelude.{
  ℕ,
  ◌==◌,
  if◌then◌else◌,
  List,
  [],
  ◌∷◌,
  reverse,
  Option,
  Some,
  None,
  option_and_then,
  option_map,
}

-- one reading, and then the next, where both fit
infixl 10 ◌>>=◌
abbrev pub ◌>>=◌ : {A B : Type 0} → Option A → (A → Option B) → Option B
found >>= next = option_and_then next found

-- what follows a word at the front
unfoldable pub after : List ℕ → List ℕ → Option (List ℕ)
after [] t = Some t
after (w ∷ ws) [] = None
after (w ∷ ws) (c ∷ cs) = if c == w then after ws cs else None

-- what stands before a word at the end
unfoldable pub before : List ℕ → List ℕ → Option (List ℕ)
before word t = option_map reverse (after (reverse word) (reverse t))
