-- How far the code reads a path to find its parent.
use Rattle.std.specs.Prelude.{ℕ, List, [], ◌∷◌}
use Rattle.std.specs.List.{join_with_byte}
use Rattle.sugar_path.specs.Parent.{trimmed}

-- the parts of a path as far as its last component, joined by `/`
abbrev pub until_last : List (List ℕ) → List ℕ
until_last [] = []
until_last (first ∷ rest) = join_with_byte 47 (first ∷ trimmed rest)
