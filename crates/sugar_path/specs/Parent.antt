-- The parent of a path: the text as far as its last component but one, as Rust's `std::path` has it.
use Rattle.std.specs.Prelude.{ℕ, ◌&&◌, Bool, true, false, if◌then◌else◌, List, [], ◌∷◌, Option, Some, None}
use Rattle.std.specs.List.{join_with_byte}
use Rattle.sugar_path.specs.Path.{parts}
pub use Rattle.sugar_path.specs.Part.{is_silent}

abbrev pub is_nil : List (List ℕ) → Bool
is_nil [] = true
is_nil (part ∷ rest) = false

-- parts as far as the last component
abbrev pub trimmed : List (List ℕ) → List (List ℕ)
trimmed [] = []
trimmed (part ∷ rest) = if is_nil (trimmed rest) && is_silent part then [] else (part ∷ trimmed rest)

abbrev pub but_last : List (List ℕ) → List (List ℕ)
but_last [] = []
but_last (part ∷ []) = []
but_last (part ∷ next ∷ rest) = part ∷ but_last (next ∷ rest)

-- nothing in front of the first slash is the root
abbrev pub or_slash : List ℕ → List ℕ
or_slash [] = 47 ∷ []
or_slash (c ∷ t) = c ∷ t

-- by the first part and the components behind it: the root and the empty path have no parent, and that of a lone
-- component is empty
abbrev pub parent_by : List ℕ → List (List ℕ) → Option (List ℕ)
parent_by [] [] = None
parent_by (c ∷ first) [] = Some []
parent_by first (part ∷ rest) = Some (or_slash (join_with_byte 47 (first ∷ trimmed (but_last (part ∷ rest)))))

-- by the parts of a path
abbrev pub parent_of_parts : List (List ℕ) → Option (List ℕ)
parent_of_parts [] = None
parent_of_parts (first ∷ rest) = parent_by first (trimmed rest)

unfoldable pub parent_of : List ℕ → Option (List ℕ)
parent_of t = parent_of_parts (parts t)
