-- Where something stands first in a list. What indexes a lock keeps this; no promise of a call reads it.
use Rattle.std.specs.Prelude.{
  ℕ,
  suc,
  Bool,
  ◌==◌,
  ◌&&◌,
  if◌then◌else◌,
  List,
  [],
  ◌∷◌,
  Option,
  Some,
  None,
  bytes_eq,
  min,
  option_map,
}
use Rattle.yarn_lock_parser.specs.Entry.{Entry}

-- the place of the first element that passes a test
abbrev pub first_place : {A : Type 0} → (A → Bool) → List A → Option ℕ
first_place test [] = None
first_place test (x ∷ xs) = if test x then Some 0 else option_map suc (first_place test xs)

-- the first of two places
abbrev pub earlier : Option ℕ → Option ℕ → Option ℕ
earlier None later = later
earlier (Some i) None = Some i
earlier (Some i) (Some j) = Some (min i j)

-- an entry of a lock of version 1 has this name and version
abbrev pub is_released_as : ℕ → List ℕ → List ℕ → Entry → Bool
is_released_as lock_version name version entry =
    (lock_version == 1) && (bytes_eq name entry.name && bytes_eq version entry.version)
