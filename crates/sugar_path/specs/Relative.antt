-- The path from one place to another, by root, parents and names.
use Rattle.std.specs.Prelude.{
  ℕ,
  ◌-◌,
  ◌==◌,
  Bool,
  true,
  false,
  not,
  if◌then◌else◌,
  List,
  [],
  ◌∷◌,
  ◌++◌,
  length,
  drop,
  bytes_eq,
  reverse,
  replicate,
}
use Rattle.std.specs.List.{join_with_byte, common_prefix_len}
use Rattle.sugar_path.specs.Path.{join}
use Rattle.sugar_path.specs.Route.{Route, Rooted, Relative, route_names, route_of}

-- two routes begin at one folder: both at `/`, or as many folders above one folder
abbrev pub same_start : Route → Route → Bool
same_start (Rooted p) (Rooted q) = true
same_start (Rooted p) (Relative k q) = false
same_start (Relative k p) (Rooted q) = false
same_start (Relative k p) (Relative m q) = k == m

-- from a base to a target by their names in the order of reading: one `..` for each name of the base behind those that
-- both begin with, then what is left of the target
abbrev pub between : List (List ℕ) → List (List ℕ) → List (List ℕ)
between base target =
    let shared = common_prefix_len bytes_eq target base in
    replicate (length base - shared) (46 ∷ 46 ∷ []) ++ drop shared target

-- the text of the way from one route to another that begins at the same folder
unfoldable pub way : Route → Route → List ℕ
way base target = join_with_byte 47 (between (reverse (route_names base)) (reverse (route_names target)))

-- a working folder is needed where the two don't begin at one folder
abbrev pub needs_folder : List ℕ → List ℕ → Bool
needs_folder base target = not (same_start (route_of target) (route_of base))

-- the relative path from a base to a target, which are read from a working folder where that is needed
unfoldable pub relative_from : List ℕ → List ℕ → List ℕ → List ℕ
relative_from cwd base target =
    if needs_folder base target
    then way (route_of (join cwd base)) (route_of (join cwd target))
    else way (route_of base) (route_of target)
