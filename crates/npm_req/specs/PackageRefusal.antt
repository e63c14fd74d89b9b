-- Why a text names no package with a requirement.
use Rattle.std.specs.Prelude.{◌≡◌, ℕ, List, [], Err}
use Rattle.std.specs.Str.{IsCharBoundary}
use Rattle.npm_req.specs.Package.{name_and_range}
use Rattle.npm_req.specs.Requirement.{meaning_of}
use Rattle.npm_req.specs.declared.error.NpmVersionReqParseError.{NpmVersionReqParseError}
use Rattle.npm_req.specs.declared.error.NpmVersionReqParseError.TheVariants as req
use Rattle.npm_req.specs.declared.error.PackageReqParseError.{PackageReqParseError}
use Rattle.npm_req.specs.declared.error.PackageReqParseError.TheVariants.{EmptyName, Req, NoMemory}

-- the refusal of a requirement, as that of the package
abbrev pub in_package : NpmVersionReqParseError → PackageReqParseError
in_package (req.Unexpected place) = Req place
in_package req.NoMemory = NoMemory

-- the text is empty, or this is the place in the requirement's own text where it doesn't read, or memory ran out
abbrev pub IsRefused : List ℕ → PackageReqParseError → Type 0
IsRefused text EmptyName = text ≡ []
IsRefused text (Req place) = meaning_of (name_and_range text).1 ≡ Err place
IsRefused text NoMemory = Unit {0}

-- a character of the requirement's own text begins at the place where it doesn't read, or there is its end
abbrev pub IsPlaceInRange : List ℕ → PackageReqParseError → Type 0
IsPlaceInRange text EmptyName = Unit {0}
IsPlaceInRange text (Req place) = IsCharBoundary (name_and_range text).1 place
IsPlaceInRange text NoMemory = Unit {0}
