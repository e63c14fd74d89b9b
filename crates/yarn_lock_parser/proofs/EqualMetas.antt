-- Metas are compared by what their flags mean.
use Rattle.std.proofs.Common.{◌≡◌, ℕ, List, [], ◌∷◌, map, refl, ap}
use Rattle.std.specs.Prelude.{◌&&◌}
use Rattle.std.specs.Cmp.Lexicographic.{pointwise}
use Rattle.yarn_lock_parser.specs.Metas.{Flag}
use Rattle.yarn_lock_parser.specs.Metas.{as_meta}
use Rattle.yarn_lock_parser.specs.EntryEq.{flagged_eq, meta_eq}

pub pointwise-as_meta : (xs ys : List (List ℕ × Flag))
    → pointwise flagged_eq xs ys ≡ pointwise meta_eq (map as_meta xs) (map as_meta ys)
pointwise-as_meta [] [] = refl
pointwise-as_meta [] (y ∷ ys) = refl
pointwise-as_meta (x ∷ xs) [] = refl
pointwise-as_meta (x ∷ xs) (y ∷ ys) = ap (λ b. flagged_eq x y && b) (pointwise-as_meta xs ys)
