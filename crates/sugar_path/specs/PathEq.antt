-- The test of two paths is equality, which the impl of `==` has to show.
use Rattle.std.proofs.Common.{◌≡◌, ◌&&◌, [], ◌∷◌, bytes_eq, refl, ap}
use Rattle.std.specs.Bool.{Decides}
use Rattle.std.specs.Cmp.{IsEquivalence, decided}
use Rattle.std.specs.Cmp.Lexicographic.{pointwise, pointwise_decides, bytes_decides}
use Rattle.std.proofs.lemmas.Bool.Decides.{Decides-at}
use Rattle.sugar_path.specs.Path.{Path, path_eq}

path_eq-pointwise : (p q : Path) → path_eq p q ≡ pointwise bytes_eq p q
path_eq-pointwise [] [] = refl
path_eq-pointwise [] (m ∷ q) = refl
path_eq-pointwise (n ∷ p) [] = refl
path_eq-pointwise (n ∷ p) (m ∷ q) = ap (λ b. bytes_eq n m && b) (path_eq-pointwise p q)

-- the test of two paths tells whether they are one
pub path_eq-Decides : (p q : Path) → Decides (path_eq p q) (p ≡ q)
path_eq-Decides p q = Decides-at _ _ (path_eq-pointwise p q) (pointwise_decides bytes_decides p q)

pub path_eq-equivalence : IsEquivalence path_eq
path_eq-equivalence = decided path_eq path_eq-Decides
