-- Partial versions: a version, or one to three components, each a number or an x.
use Rattle.std.specs.Prelude.{
  ℕ,
  ◌≤◌,
  Bool,
  false,
  ◌==◌,
  ◌||◌,
  if◌then◌else◌,
  List,
  [],
  ◌∷◌,
  Option,
  Some,
  None,
  option_map,
}
use Rattle.std.specs.Option.{option_or}
use Rattle.semver.specs.Parse.{Parts}
use Rattle.semver.specs.Order.{parts}
use Rattle.npm_req.specs.Number.{largest_number, number}
use Rattle.npm_req.specs.Version.{semver_of}
use Rattle.npm_req.specs.declared.partial.Partial.{Partial}
use Rattle.npm_req.specs.declared.partial.Partial.TheVariants.{Any, Major, Minor, Full}

-- `x`, `X` or `*`
abbrev pub is_x : List ℕ → Bool
is_x [] = false
is_x (c ∷ []) = c == 120 || c == 88 || c == 42
is_x (c ∷ d ∷ ds) = false

-- a component: no number where it is an x
abbrev pub component : List ℕ → Option (Option ℕ)
component t = if is_x t then Some None else option_map Some (number t)

-- the components of one partial: those after an x are passed over
abbrev pub of_components : Option ℕ → Option ℕ → Option ℕ → Partial
of_components None minor patch = Any
of_components (Some a) None patch = Major a
of_components (Some a) (Some b) None = Minor a b
of_components (Some a) (Some b) (Some c) = Full (a, b, c, [], [])

-- a partial of three components, if each is one
abbrev pub three : Option (Option ℕ) → Option (Option ℕ) → Option (Option ℕ) → Option Partial
three (Some major) (Some minor) (Some patch) = Some (of_components major minor patch)
three major minor patch = None

-- one to three components, of which a missing one counts as an x
abbrev pub components : List (List ℕ) → Option Partial
components (a ∷ []) = three (component a) (Some None) (Some None)
components (a ∷ b ∷ []) = three (component a) (component b) (Some None)
components (a ∷ b ∷ c ∷ []) = three (component a) (component b) (component c)
components others = None

-- a version without its build
abbrev pub without_build : Parts → Parts
without_build p = (p.0, p.1, p.2, p.3, [])

-- the partial that a text writes: a version, whose build is dropped, or components between dots
abbrev pub partial_of : List ℕ → Option Partial
partial_of t = option_or (option_map (λ p. Full (without_build p)) (semver_of t)) (components (parts t))

-- the numbers of a partial aren't too large
abbrev pub IsCounted : Partial → Type 0
IsCounted Any = Unit {0}
IsCounted (Major a) = a ≤ largest_number
IsCounted (Minor a b) = (a ≤ largest_number) × (b ≤ largest_number)
IsCounted (Full p) = (p.0 ≤ largest_number) × (p.1 ≤ largest_number) × (p.2 ≤ largest_number)
