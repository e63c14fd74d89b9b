-- The names of a path, as the code holds them and as it writes them.
use Rattle.std.specs.Prelude.{ℕ, List, [], ◌∷◌, ◌++◌, flat_map, map}
use denote.Ref.{Bor}

-- the texts that are borrowed
abbrev pub texts : List (Bor (List ℕ)) → List (List ℕ)
texts names = map (λ name. name.now) names

-- parts, each with a slash behind it
abbrev pub closed : List (List ℕ) → List ℕ
closed ps = flat_map (λ part. part ++ 47 ∷ []) ps
