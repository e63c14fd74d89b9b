-- What the parts of `normalize_path` have in hand: a text without `\`, and the names of a relative text as it is read.
use Rattle.std.specs.Prelude.{
  ◌≡◌,
  ℕ,
  ◌==◌,
  false,
  if◌then◌else◌,
  List,
  [],
  ◌∷◌,
  ◌++◌,
  map,
  reverse,
  replicate,
  bytes_eq,
}
use Rattle.std.specs.List.{AllByRecursion}
use denote.Ref.{Bor}
use Rattle.sugar_path.specs.Path.{Path}
use Rattle.sugar_path.specs.Route.{Route, Rooted, Relative, is_rooted, route_names}

-- the text with `/` in place of `\`
abbrev pub slashed : List ℕ → List ℕ
slashed t = map (λ c. if c == 92 then 47 else c) t

-- borrowed names as a path
abbrev pub names_of : List (Bor (List ℕ)) → Path
names_of names = reverse (map (λ n. n.now) names)

-- the parts of a route that isn't rooted, the last one first: its names, and then each `..`
abbrev pub last_first : Route → Path
last_first (Rooted p) = p
last_first (Relative ups p) = p ++ replicate ups (46 ∷ 46 ∷ [])

-- borrowed names are the parts of a route that isn't rooted
pub record ArePartsOf (texts : List (Bor (List ℕ))) (r : Route) : Type 0 where
  pub relative : is_rooted r ≡ false
  -- no name is `..`
  pub names : AllByRecursion (λ n. bytes_eq n (46 ∷ 46 ∷ []) ≡ false) (route_names r)
  pub parts : names_of texts ≡ last_first r
