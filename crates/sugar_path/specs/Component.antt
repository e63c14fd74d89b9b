-- The components of a path, as Rust's `std::path` tells them apart on Unix.
use Rattle.std.specs.Prelude.{Bool, false, if◌then◌else◌, List, [], ◌∷◌, ◌++◌, ℕ, bytes_eq}
use Rattle.sugar_path.specs.Path.{parts, is_absolute}
use Rattle.sugar_path.specs.Part.{is_silent}

-- the root, the folder that a path is read from, the folder above, or a name
pub data Piece : Type 0 where
  Root : Piece
  Here : Piece
  Above : Piece
  Name : List ℕ → Piece

-- a part that isn't silent: `..`, or a name
abbrev pub piece : List ℕ → Piece
piece part = if bytes_eq part (46 ∷ 46 ∷ []) then Above else Name part

-- the components behind a path's beginning: empty parts and `.` are none
abbrev pub pieces : List (List ℕ) → List Piece
pieces [] = []
pieces (part ∷ rest) = if is_silent part then pieces rest else (piece part ∷ pieces rest)

-- the first part is `.`
abbrev pub starts_here : List (List ℕ) → Bool
starts_here [] = false
starts_here (part ∷ rest) = bytes_eq part (46 ∷ [])

-- what a path begins with: the root, or a `.` as its first part
abbrev pub beginning : List ℕ → List Piece
beginning t = if is_absolute t then (Root ∷ []) else if starts_here (parts t) then (Here ∷ []) else []

-- the components of a path in order: what it begins with, and then each `..` and each name
unfoldable pub components_of : List ℕ → List Piece
components_of t = beginning t ++ pieces (parts t)
