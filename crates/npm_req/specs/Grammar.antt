-- The grammar of npm's versions and ranges: relations between a text and what it stands for. Those of parts and
-- alternatives are between a text and what is left of it too: the text begins with such a thing, and the rest follows.
use Rattle.std.specs.Prelude.{◌≡◌, ◌⊎◌, ◌++◌, ◌↔◌, ◌<◌, ℕ, true, List, [], ◌∷◌, Option, Some, None, Ok, codes, length}
use Rattle.std.specs.List.{list_all}
use Rattle.semver.specs.Grammar.{IsValid}
use Rattle.semver.specs.Identifiers.{parts_text}
use Rattle.semver.specs.Order.{parts}
use Rattle.semver.specs.Parse.{Parts}
use Rattle.npm_req.specs.Comparators.{comparators}
use Rattle.npm_req.specs.Front.{after_all, is_blank, is_space}
use Rattle.npm_req.specs.Number.{number}
use Rattle.npm_req.specs.Part.{part}
use Rattle.npm_req.specs.Partial.{is_x, of_components, partial_of, without_build}
use Rattle.npm_req.specs.Version.{are_numbers, semver_of, version_of}
use Rattle.npm_req.specs.Range.{range}
use Rattle.npm_req.specs.Word.{ends_alternative, ends_part}
use Rattle.npm_req.specs.declared.comparator.Comparator.{Comparator}
use Rattle.npm_req.specs.declared.comparator.Operator.{Operator}
use Rattle.npm_req.specs.declared.comparator.Operator.TheVariants as op
use Rattle.npm_req.specs.declared.partial.Partial.{Partial}
use Rattle.npm_req.specs.declared.partial.Partial.TheVariants.{Full}

-- a text of Semantic Versioning 2.0.0, by the grammar of the crate that reads it, whose numbers npm can count
pub record IsSemver (t : List ℕ) (p : Parts) : Type 0 where
  pub is : t ≡ parts_text p
  pub valid : IsValid p
  pub counted : are_numbers p ≡ true

-- spaces and tabs, or nothing
abbrev pub AreBlanks : List ℕ → Type 0
AreBlanks t = list_all is_blank t ≡ true

-- one `v` or `=`, or nothing
abbrev pub IsSign : List ℕ → Type 0
IsSign t = (t ≡ []) ⊎ ((t ≡ codes "v") ⊎ (t ≡ codes "="))

-- a version of npm: blanks, a sign, a text of Semantic Versioning, blanks
pub record IsVersion (t : List ℕ) (p : Parts) : Type 0 where
  pub prior : List ℕ
  pub sign : List ℕ
  pub text : List ℕ
  pub rest : List ℕ
  pub is : t ≡ prior ++ (sign ++ (text ++ rest))
  pub prior_blank : AreBlanks prior
  pub one_sign : IsSign sign
  pub semver : IsSemver text p
  pub rest_blank : AreBlanks rest

-- a component: an x, or a number
pub data Component : List ℕ → Option ℕ → Type 0 where
  an_x : {t : List ℕ} → is_x t ≡ true → Component t None
  a_number : {t : List ℕ} {n : ℕ} → number t ≡ Some n → Component t (Some n)

-- one to three components; a missing one counts as an x
pub data Components : List (List ℕ) → Partial → Type 0 where
  one : {a : List ℕ} {x : Option ℕ} → Component a x → Components (a ∷ []) (of_components x None None)
  two : {a b : List ℕ} {x y : Option ℕ} → Component a x → Component b y
      → Components (a ∷ b ∷ []) (of_components x y None)
  three : {a b c : List ℕ} {x y z : Option ℕ} → Component a x → Component b y → Component c z
      → Components (a ∷ b ∷ c ∷ []) (of_components x y z)

-- a partial version: a text of Semantic Versioning, whose build is dropped, or else components between dots
pub data PartialVersion : List ℕ → Partial → Type 0 where
  whole : {t : List ℕ} {v : Parts} → IsSemver t v → PartialVersion t (Full (without_build v))
  in_components : {t : List ℕ} {p : Partial} → ((v : Parts) → ¬ (IsSemver t v)) → Components (parts t) p
      → PartialVersion t p

-- an operator; nothing counts as `=`
pub data Mark : List ℕ → Operator → Type 0 where
  caret : Mark (codes "^") op.Caret
  tilde : Mark (codes "~") op.Tilde
  tilde_above : Mark (codes "~>") op.Tilde
  at_least : Mark (codes ">=") op.AtLeast
  above : Mark (codes ">") op.Above
  at_most : Mark (codes "<=") op.AtMost
  below : Mark (codes "<") op.Below
  equal : Mark (codes "=") op.Equal
  unmarked : Mark [] op.Equal

-- a part of a range: an operator, spaces or none, a `v` or none, and a partial version behind which a part may end
pub record IsPart (t rest : List ℕ) (cs : List Comparator) : Type 0 where
  pub mark : List ℕ
  pub operator : Operator
  pub spaces : List ℕ
  pub sign : List ℕ
  pub word : List ℕ
  pub partial : Partial
  pub is : t ≡ mark ++ (spaces ++ (sign ++ (word ++ rest)))
  pub marked : Mark mark operator
  pub are_spaces : list_all is_space spaces ≡ true
  pub signed : (sign ≡ []) ⊎ (sign ≡ codes "v")
  pub read : PartialVersion word partial
  pub ends : ends_part rest ≡ true
  pub means : cs ≡ comparators operator partial

-- parts one after the other up to where an alternative ends, spaces between them
pub data IsParts : List ℕ → List ℕ → List Comparator → Type 0 where
  no_more : {rest : List ℕ} → ends_alternative rest ≡ true → IsParts rest rest []
  further : {t s rest : List ℕ} {cs ds : List Comparator} → IsPart t s cs → IsParts (after_all is_space s) rest ds
      → IsParts t rest (cs ++ ds)

-- two partial versions around spaces, `-` and spaces, up to where an alternative ends: both ends belong to it
pub record IsHyphen (t rest : List ℕ) (cs : List Comparator) : Type 0 where
  pub first : List ℕ
  pub spaces : List ℕ
  pub further_spaces : List ℕ
  pub second : List ℕ
  pub last_spaces : List ℕ
  pub low : Partial
  pub high : Partial
  pub is : t ≡ first ++ (spaces ++ (codes "- " ++ (further_spaces ++ (second ++ (last_spaces ++ rest)))))
  pub first_read : PartialVersion first low
  pub second_read : PartialVersion second high
  pub some_spaces : 0 < length spaces
  pub are_spaces : list_all is_space spaces ≡ true
  pub are_further_spaces : list_all is_space further_spaces ≡ true
  pub are_last_spaces : list_all is_space last_spaces ≡ true
  pub ends : ends_alternative rest ≡ true
  pub means : cs ≡ comparators op.AtLeast low ++ comparators op.AtMost high

-- an alternative, behind the spaces in front of it: parts, or none; or two partial versions around `-`
pub data IsAlternative : List ℕ → List ℕ → List Comparator → Type 0 where
  in_parts : {t rest : List ℕ} {cs : List Comparator} → IsParts t rest cs → IsAlternative t rest cs
  hyphened : {t rest : List ℕ} {cs : List Comparator} → IsHyphen t rest cs → IsAlternative t rest cs

-- a range: alternatives between `||`
pub data IsRange : List ℕ → List (List Comparator) → Type 0 where
  last : {t : List ℕ} {cs : List Comparator} → IsAlternative (after_all is_space t) [] cs → IsRange t (cs ∷ [])
  and_next : {t next : List ℕ} {cs : List Comparator} {others : List (List Comparator)}
      → IsAlternative (after_all is_space t) (codes "||" ++ next) cs → IsRange next others → IsRange t (cs ∷ others)

-- a text of Semantic Versioning is read exactly where the grammar has it
abbrev pub SemversAgree : Type 0
SemversAgree = (t : List ℕ) (p : Parts) → (semver_of t ≡ Some p) ↔ IsSemver t p

-- a version is read exactly where the grammar has it
abbrev pub VersionsAgree : Type 0
VersionsAgree = (t : List ℕ) (p : Parts) → (version_of t ≡ Some p) ↔ IsVersion t p

-- a partial version is read exactly where the grammar has it
abbrev pub PartialsAgree : Type 0
PartialsAgree = (t : List ℕ) (p : Partial) → (partial_of t ≡ Some p) ↔ PartialVersion t p

-- a part is read exactly where the grammar has it
abbrev pub PartsAgree : Type 0
PartsAgree = (t rest : List ℕ) (cs : List Comparator) → (part t ≡ Ok (cs, rest)) ↔ IsPart t rest cs

-- a range is read exactly where the grammar has it
abbrev pub RangesAgree : Type 0
RangesAgree = (t : List ℕ) (made : List (List Comparator)) → (range t ≡ Ok made) ↔ IsRange t made
