-- What a path says, absolute or not: its root, the folders that it first goes up, and its names.
use Rattle.std.specs.Prelude.{
  Bool,
  true,
  false,
  ℕ,
  ◌+◌,
  ◌&&◌,
  not,
  if◌then◌else◌,
  List,
  [],
  ◌∷◌,
  ◌++◌,
  bytes_eq,
  reverse,
  replicate,
}
use Rattle.std.specs.List.{join_with_byte}
use Rattle.sugar_path.specs.Part.{by_kind}
use Rattle.sugar_path.specs.Path.{Path, parent, is_absolute, parts, ends_in_slash, join}

-- where a path leads: from `/` down some names, the last one first, or from some folder so many folders up and then
-- down some names
pub data Route : Type 0 where
  Rooted : Path → Route
  Relative : ℕ → Path → Route

-- `..` takes the last name away. Where no name is left, `/` stays, and another route goes up once more
abbrev pub route_up : Route → Route
route_up (Rooted p) = Rooted (parent p)
route_up (Relative ups []) = Relative (ups + 1) []
route_up (Relative ups (n ∷ p)) = Relative ups p

abbrev pub route_down : Route → List ℕ → Route
route_down (Rooted p) n = Rooted (n ∷ p)
route_down (Relative ups p) n = Relative ups (n ∷ p)

abbrev pub route_names : Route → Path
route_names (Rooted p) = p
route_names (Relative ups p) = p

abbrev pub is_rooted : Route → Bool
is_rooted (Rooted p) = true
is_rooted (Relative ups p) = false

-- the parts of a route in the order of reading: the `..`, and then the names
abbrev pub route_parts : Route → List (List ℕ)
route_parts (Rooted p) = reverse p
route_parts (Relative ups p) = replicate ups (46 ∷ 46 ∷ []) ++ reverse p

-- a route read on by one part: an empty one and `.` stay, `..` goes up, and a name goes down
abbrev pub route_by_part : Route → List ℕ → Route
route_by_part r part = by_kind part r (route_up r) (route_down r part)

-- a route read on by parts in order
abbrev pub route_by_parts : Route → List (List ℕ) → Route
route_by_parts r [] = r
route_by_parts r (part ∷ rest) = route_by_parts (route_by_part r part) rest

-- where a text begins: at `/`, or in some folder
abbrev pub route_start : List ℕ → Route
route_start t = if is_absolute t then Rooted [] else Relative 0 []

-- the route that a text names
unfoldable pub route_of : List ℕ → Route
route_of t = route_by_parts (route_start t) (parts t)

-- the text of a route: the root, if any, and the parts joined by `/`
unfoldable pub route_text : Route → List ℕ
route_text (Rooted p) = 47 ∷ join_with_byte 47 (route_parts (Rooted p))
route_text (Relative ups p) = join_with_byte 47 (route_parts (Relative ups p))

-- where no part is left, the text is `.`
abbrev pub or_dot : List ℕ → List ℕ
or_dot [] = 46 ∷ []
or_dot (c ∷ t) = c ∷ t

-- the place of a path: the text of its route
unfoldable pub place : List ℕ → List ℕ
place t = or_dot (route_text (route_of t))

-- the normal form of a path: its place, and one `/` behind it where the path ends in `/` and its place isn't the root
unfoldable pub normal : List ℕ → List ℕ
normal t = if ends_in_slash t && not (bytes_eq (place t) (47 ∷ [])) then (place t ++ 47 ∷ []) else place t

-- a path read from a folder: an absolute one stands alone
abbrev pub from_folder : List ℕ → List ℕ → List ℕ
from_folder cwd t = place (join cwd t)
