-- What the functions of texts with a `*` come to, for all texts.
use Rattle.std.specs.Prelude.{◌≡◌, ◌↔◌, ℕ, false, List, ◌++◌, codes, Some}
use Rattle.star_texts.specs.Star.{has_star, around_star, around_only_star, rest_between, replaced}

-- the parts around a `*` and the `*` between them make the text: none stands before the first one, and none on either
-- side of the only one
pub record StarParts : Type 0 where
  pub first : (text before behind : List ℕ) → (around_star text ≡ Some (before, behind)) ↔
      ((text ≡ before ++ (codes "*" ++ behind)) × (has_star before ≡ false))
  pub only :
      (text before behind : List ℕ) → (around_only_star text ≡ Some (before, behind)) ↔
      ((text ≡ before ++ (codes "*" ++ behind)) × (has_star before ≡ false) × (has_star behind ≡ false))

-- a rest stands between two texts exactly where the three make the whole
abbrev pub RestStandsBetween : Type 0
RestStandsBetween = (text before behind rest : List ℕ)
    → (rest_between text before behind ≡ Some rest) ↔ (text ≡ before ++ (rest ++ behind))

-- what replaces the only `*` of a text is read back from between the parts around it
abbrev pub ReplacedReadsBack : Type 0
ReplacedReadsBack =
    (text before behind rest : List ℕ) → around_only_star text ≡ Some (before, behind)
    → rest_between (replaced text rest) before behind ≡ Some rest
