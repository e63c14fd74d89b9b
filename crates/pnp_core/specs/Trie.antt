-- Values at locations.
use Rattle.std.specs.Prelude.{
  ◌≡◌,
  ◌⊎◌,
  ◌↔◌,
  ℕ,
  if◌then◌else◌,
  IsTrue,
  IsSome,
  List,
  [],
  ◌∷◌,
  length,
  Option,
  Some,
  bytes_eq,
}
use Rattle.std.specs.List.{Contains, IsDistinct}
use Rattle.std.specs.Map.{lookup}
use Rattle.sugar_path.specs.Path.{Path, IsPath, path_eq, text_of, below}
use Rattle.std.specs.Option.{option_or}

-- from the texts of paths to values
abbrev pub Locations : Type 0 → Type 0
Locations T = List (List ℕ × T)

abbrev pub value_at : {T : Type 0} → Locations T → Path → Option T
value_at t l = lookup (bytes_eq (text_of l)) t

-- the value of the nearest of a path and the folders above it that is a location
abbrev pub nearest_value : {T : Type 0} → Locations T → Path → Option T
nearest_value t [] = value_at t []
nearest_value t (n ∷ p) = option_or (value_at t (n ∷ p)) (nearest_value t p)

-- a location has a value now, and the others have what they had
abbrev pub Puts : {T : Type 0} → Locations T → Locations T → Path → T → Type 0
Puts old new l v =
    (p : Path) → IsPath p → value_at new p ≡ (if path_eq l p then Some v else value_at old p)

-- a path has a value
abbrev pub IsLocation : {T : Type 0} → Locations T → Path → Type 0
IsLocation t l = IsPath l × IsSome (value_at t l)

-- the longest folder that two paths are or lie below: its names are the longest list of names with which those of both
-- begin
pub record IsShared (a b l : Path) : Type 0 where
  pub first : IsTrue (below a l)
  pub second : IsTrue (below b l)
  pub longest : (k : Path) → IsTrue (below a k) → IsTrue (below b k) → IsTrue (below l k)

-- a path has a node: `/`, each location, and what two locations share
abbrev pub HasNode : {T : Type 0} → Locations T → Path → Type 0
HasNode t l =
    (l ≡ [])
    ⊎ (IsLocation t l ⊎ ((a : Path) × (b : Path) × IsLocation t a × IsLocation t b × IsShared a b l))

-- so many paths have a node: they are listed, each once
pub record CountsNodes {T : Type 0} (t : Locations T) (n : ℕ) : Type 0 where
  pub nodes : List Path
  pub count : length nodes ≡ n
  pub once : IsDistinct path_eq nodes
  pub exact : (l : Path) → Contains nodes l ↔ HasNode t l
