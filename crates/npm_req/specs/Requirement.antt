-- What a text requires of a version: a range, or a tag, which is a name that the registry gives to a version.
use Rattle.std.specs.Prelude.{
  ◌≡◌,
  ℕ,
  ◌+◌,
  ◌-◌,
  Bool,
  false,
  ◌==◌,
  ◌&&◌,
  ◌||◌,
  if◌then◌else◌,
  List,
  [],
  ◌∷◌,
  length,
  Option,
  Some,
  None,
  Result,
  Ok,
  Err,
}
use Rattle.std.specs.Char.{is_ascii_alphabetic, is_ascii_digit}
use Rattle.std.specs.List.{list_all}
use Rattle.std.specs.Str.{IsCharBoundary}
use Rattle.npm_req.specs.Front.{after_all, is_blank, trimmed}
use Rattle.npm_req.specs.Meets.{meets}
use Rattle.npm_req.specs.Range.{range}
use Rattle.npm_req.specs.declared.comparator.Comparator.{Comparator}
use Rattle.npm_req.specs.declared.error.NpmVersionReqParseError.{NpmVersionReqParseError}
use Rattle.npm_req.specs.declared.error.NpmVersionReqParseError.TheVariants.{Unexpected, NoMemory}
use Rattle.npm_req.specs.declared.requirement.Meaning.{Meaning}
use Rattle.npm_req.specs.declared.requirement.Meaning.TheVariants.{Range, Tag}
use Rattle.semver.specs.Parse.{Parts}

-- a letter, a digit, `-`, `_` or `.`
abbrev pub is_tag_byte : ℕ → Bool
is_tag_byte c = is_ascii_alphabetic c || is_ascii_digit c || c == 45 || c == 95 || c == 46

-- a letter, and then letters, digits, `-`, `_` and `.`
abbrev pub is_tag : List ℕ → Bool
is_tag [] = false
is_tag (c ∷ cs) = is_ascii_alphabetic c && list_all is_tag_byte cs

-- a place in a text, where so many bytes of the trimmed text are left; it counts the bytes of the text as it was given
abbrev pub place_of : List ℕ → ℕ → ℕ
place_of text left = (length text - length (after_all is_blank text)) + (length (trimmed text) - left)

-- a text that isn't a range is a tag where it has the form of one, and else is refused
abbrev pub or_tag : List ℕ → Result (List (List Comparator)) ℕ → Result Meaning ℕ
or_tag text (Ok alternatives) = Ok (Range alternatives)
or_tag text (Err left) = if is_tag (trimmed text) then Ok (Tag (trimmed text)) else Err (place_of text left)

-- what a text means, or the place where the first part or partial version begins that doesn't read
abbrev pub meaning_of : List ℕ → Result Meaning ℕ
meaning_of text = or_tag text (range (trimmed text))

-- a requirement: the text as it was given, and what it means
pub record Requirement : Type 0 where
  pub text : List ℕ
  pub meaning : Meaning

-- the tag, where the text is one
abbrev pub tag_of : Meaning → Option (List ℕ)
tag_of (Range alternatives) = None
tag_of (Tag name) = Some name

-- whether a version meets what a text means; no version meets a tag
abbrev pub meets_meaning : Parts → Meaning → Bool
meets_meaning v (Range alternatives) = meets v alternatives
meets_meaning v (Tag name) = false

-- why a text gives no requirement: memory ran out, or this is where it doesn't read
abbrev pub IsRefused : Result Meaning ℕ → NpmVersionReqParseError → Type 0
IsRefused meaning (Unexpected place) = meaning ≡ Err place
IsRefused meaning NoMemory = Unit {0}

-- a character of the text begins at the place where it doesn't read, or there is the text's end
abbrev pub IsPlaceIn : List ℕ → NpmVersionReqParseError → Type 0
IsPlaceIn text (Unexpected place) = IsCharBoundary text place
IsPlaceIn text NoMemory = Unit {0}
