-- What a person is told of a requirement that isn't supported.
use Rattle.std.specs.Prelude.{◌≡◌, ℕ, List, ◌++◌, Ok, Err, codes}
use Rattle.std.specs.List.{AllByRecursion}
use Rattle.std.specs.Str.{IsCharBoundary}
use Rattle.npm_req.specs.Message as npm
use Rattle.npm_req.specs.declared.error.NpmVersionReqParseError.TheVariants.{Unexpected}
use Rattle.deno_package_json.specs.declared.dep_value.PackageJsonDepValueParseError.{PackageJsonDepValueParseError}
use Rattle.deno_package_json.specs.declared.dep_value.PackageJsonDepValueParseError.TheVariants.{
  VersionReq,
  Unsupported,
}
use Rattle.deno_package_json.specs.Requirements.{Required, Requirements}

-- the message on a range is that of `npm_req` on its text
abbrev pub IsMessage : PackageJsonDepValueParseError → List ℕ → Type 0
IsMessage (VersionReq text place) message = npm.IsMessage (Unexpected place) text message
IsMessage (Unsupported scheme) message = message ≡ codes "Not implemented scheme '" ++ scheme ++ codes "'"

-- the place of a refused range is where a character of its text begins, or the text's end: so there is a message
abbrev pub IsPlaced : Required → Type 0
IsPlaced (Ok value) = Unit {0}
IsPlaced (Err (VersionReq text place)) = IsCharBoundary text place
IsPlaced (Err (Unsupported scheme)) = Unit {0}

abbrev pub ArePlaced : Requirements → Type 0
ArePlaced found = AllByRecursion (λ entry. IsPlaced entry.1) found
