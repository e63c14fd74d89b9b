-- A path being read part by part.
use Rattle.std.specs.Prelude.{
  ◌≡◌,
  ◌≤◌,
  ◌+◌,
  ◌-◌,
  ℕ,
  drop,
  take,
  vec_len,
  ◌&&◌,
  Bool,
  true,
  false,
  if◌then◌else◌,
  bytes_eq,
  suc,
  zero,
  List,
  [],
  ◌∷◌,
  ◌++◌,
  length,
}
use Rattle.sugar_path.specs.declared.reading.Reading.{Reading}
use Rattle.sugar_path.specs.declared.normal.Climb.{Climb}
use Rattle.sugar_path.specs.Path.{Path, IsPath, parts, with_slash, ends_in_slash, is_plain, has_no_slash}
use Rattle.sugar_path.specs.Route.{
  Route,
  Rooted,
  Relative,
  route_by_part,
  route_by_parts,
  route_names,
  is_rooted,
  route_text,
  or_dot,
}

-- so many `..`, joined by `/`
abbrev pub dots_text : ℕ → List ℕ
dots_text zero = []
dots_text (suc k) = with_slash (dots_text k) ++ 46 ∷ 46 ∷ []

-- names behind a text, the last one first
abbrev pub text_on : List ℕ → Path → List ℕ
text_on base [] = base
text_on base (n ∷ p) = with_slash (text_on base p) ++ n

-- what stands before the names
abbrev pub base_text : Route → List ℕ
base_text (Rooted p) = 47 ∷ []
base_text (Relative ups p) = dots_text ups

-- parts that a route's text may have: names, behind some `..` where `up` allows them
abbrev pub are_steps : Bool → List (List ℕ) → Bool
are_steps up [] = true
are_steps up (part ∷ rest) =
    if is_plain part then are_steps false rest else (up && bytes_eq part (46 ∷ 46 ∷ []) && are_steps up rest)

-- the folder that a relative path is read from
abbrev pub is_start : Route → Bool
is_start (Rooted p) = false
is_start (Relative zero []) = true
is_start (Relative zero (n ∷ p)) = false
is_start (Relative (suc k) p) = false

-- a part of a route's text: not empty, and no slash in it
abbrev pub IsPart : List ℕ → Type 0
IsPart [] = ⊥
IsPart (c ∷ n) = has_no_slash (c ∷ n) ≡ true

-- what was read so far, as text
abbrev pub read_text : Reading → List ℕ
read_text reading = take reading.len reading.text.items

-- what was read so far is the route
pub record HasRead (r : Route) (reading : Reading) : Type 0 where
  pub text : read_text reading ≡ text_on (base_text r) (route_names r)
  pub within : reading.len ≤ length reading.text.items
  pub base : reading.base ≡ length (base_text r)
  pub rooted : reading.rooted ≡ is_rooted r
  pub names : IsPath (route_names r)

-- what stands between two places of a text
abbrev pub part_in : ℕ → ℕ → List ℕ → List ℕ
part_in at end t = take (end - at) (drop at t)

-- a part stands behind what was read, with room for a slash before it
pub record IsAhead (at end : ℕ) (reading : Reading) : Type 0 where
  pub read : reading.len ≤ at
  pub room : length (with_slash (read_text reading)) ≤ at
  pub order : at ≤ end
  pub within : end ≤ vec_len reading.text

-- a text was read as far as some place: what stands behind is as it was
pub record HasPassed (end : ℕ) (old new : Reading) : Type 0 where
  pub read : new.len ≤ end
  pub rest : drop end new.text.items ≡ drop end old.text.items
  pub size : vec_len new.text ≡ vec_len old.text

-- a part begins and ends at two places of a text
pub record IsPartEnd (t : List ℕ) (at end : ℕ) : Type 0 where
  pub order : at ≤ end
  pub within : end ≤ length t
  pub part : has_no_slash (part_in at end t) ≡ true
  pub next : (r : Route) → route_by_parts r (parts (drop at t)) ≡ route_by_parts (route_by_part r (part_in at end t))
      (parts (drop (end + 1) t))
  pub last : end ≡ length t → ends_in_slash t ≡ false

-- the first bytes of a text that are kept: all of it, or its beginning where the text ends in a name
pub record StandsOn (base : ℕ) (front : List ℕ) : Type 0 where
  pub within : base ≤ length front
  pub all : with_slash front ≡ front → base ≡ length front

-- the `..` that no later one takes away
abbrev pub ups_of : Route → ℕ
ups_of (Rooted p) = 0
ups_of (Relative ups p) = ups

-- a text is the place that a route leads to
pub record IsPlaceOf (r : Route) (t : List ℕ) : Type 0 where
  pub names : IsPath (route_names r)
  pub text : t ≡ or_dot (route_text r)

-- a relative path goes up, and then down, so many folders
abbrev pub HasClimb : Route → Climb → Type 0
HasClimb (Rooted p) climb = ⊥
HasClimb (Relative k p) climb = (climb.ups ≡ k) × (climb.depth ≡ length p)
