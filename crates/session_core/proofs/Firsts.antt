-- What is in front of a list.
use Rattle.std.proofs.Common.{◌≡◌, List, [], ◌∷◌, Option, Some, None, IsSome, option_copied, refl}
use Rattle.std.specs.Prelude.{slice_get}
use Rattle.std.specs.Borrow.{Bor}

-- a list that isn't empty has a first
pub some-first : {X : Type 0} (xs : List X) (o : Option (Bor X)) → (xs ≡ [] → ⊥) → option_copied o ≡ slice_get xs 0 →
    IsSome o
some-first [] o some is = absurd (some refl)
some-first (x ∷ xs) (Some y) some is = refl
some-first (x ∷ xs) None some is = cc
