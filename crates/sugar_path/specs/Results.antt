-- One result after the other.
use Rattle.std.specs.Prelude.{Result, Ok, Err}

-- one result, and then the one that its value gives: the first error ends all
infixl 10 ◌>>=◌
abbrev pub ◌>>=◌ : {A B X : Type 0} → Result A X → (A → Result B X) → Result B X
Ok a >>= next = next a
Err x >>= next = Err x
