-- When a path's own text can be borrowed: for its normal form, for its place, and for the relative path from a base to
-- it.
use Rattle.std.specs.Prelude.{◌≡◌, ◌==◌, ◌&&◌, ◌⊎◌, ℕ, if◌then◌else◌, IsTrue, List, [], ◌∷◌, bytes_eq}
use Rattle.std.specs.Str.{IsUtf8}
use Rattle.sugar_path.specs.Path.{is_absolute, path_in, below}
use Rattle.sugar_path.specs.Route.{normal, place}

-- a path whose normal form is itself, in UTF-8, or the text `.`
abbrev pub IsNormalBorrowed : List ℕ → Type 0
IsNormalBorrowed t = (IsUtf8 t × (normal t ≡ t)) ⊎ (normal t ≡ 46 ∷ [])

-- an absolute path in UTF-8 that is its own place
abbrev pub IsPlaceBorrowed : List ℕ → Type 0
IsPlaceBorrowed t = IsTrue (is_absolute t) × IsUtf8 t × (place t ≡ t)

-- a text without the separators at its end
abbrev pub without_last_slashes : List ℕ → List ℕ
without_last_slashes [] = []
without_last_slashes (c ∷ t) =
    if bytes_eq (without_last_slashes t) [] && c == 47 then [] else c ∷ without_last_slashes t

-- an absolute path in UTF-8 that is empty, or its own normal form, without the separators at its end
pub record IsInOrder (t : List ℕ) : Type 0 where
  pub absolute : IsTrue (is_absolute t)
  pub utf8 : IsUtf8 t
  pub normal : (without_last_slashes t ≡ []) ⊎ (normal (without_last_slashes t) ≡ without_last_slashes t)

-- both paths are in order, and the names of the base are the first names of the target
pub record IsWayBorrowed (base target : List ℕ) : Type 0 where
  pub from : IsInOrder base
  pub to : IsInOrder target
  pub names : IsTrue (below (path_in target) (path_in base))
