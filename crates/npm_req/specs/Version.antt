-- The versions that npm reads: texts of Semantic Versioning 2.0.0 whose numbers npm can count.
use Rattle.std.specs.Prelude.{
  ℕ,
  Bool,
  ◌==◌,
  ◌&&◌,
  ◌||◌,
  if◌then◌else◌,
  List,
  [],
  ◌∷◌,
  Option,
  Some,
  None,
  Result,
  Ok,
  Err,
}
use Rattle.semver.specs.Parse.{Parts, version_parts}
use Rattle.semver.specs.declared.error.Error.{Error}
use Rattle.npm_req.specs.Front.{trimmed}
use Rattle.npm_req.specs.Number.{is_number}

-- whether npm can count the three numbers
abbrev pub are_numbers : Parts → Bool
are_numbers p = is_number p.0 && is_number p.1 && is_number p.2

-- what was read, if its numbers aren't too large
abbrev pub within_numbers : Result Parts Error → Option Parts
within_numbers (Err e) = None
within_numbers (Ok p) = if are_numbers p then Some p else None

-- a text of Semantic Versioning
abbrev pub semver_of : List ℕ → Option Parts
semver_of t = within_numbers (version_parts t)

-- what follows one `v` or `=`, if the text begins with it
abbrev pub without_sign : List ℕ → List ℕ
without_sign [] = []
without_sign (c ∷ cs) = if c == 118 || c == 61 then cs else c ∷ cs

-- spaces and tabs around a version don't count, nor does one `v` or `=` in front
abbrev pub version_of : List ℕ → Option Parts
version_of text = semver_of (without_sign (trimmed text))
