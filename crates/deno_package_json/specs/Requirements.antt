-- What a package requires of other packages, under the names by which it asks for them.
use Rattle.std.specs.Prelude.{
  ◌==◌,
  ◌||◌,
  ℕ,
  Bool,
  List,
  [],
  ◌∷◌,
  ◌++◌,
  Option,
  Some,
  None,
  Result,
  Ok,
  Err,
  codes,
  bytes_eq,
  fold,
  if◌then◌else◌,
  is_some,
  option_map,
  unwrap_or,
}
use Rattle.std.specs.Map.{lookup}
use Rattle.npm_req.specs.Package.{name_and_range}
use Rattle.npm_req.specs.Requirement.{Requirement, meaning_of}
use Rattle.npm_req.specs.declared.requirement.Meaning.{Meaning}
use Rattle.deno_package_json.specs.declared.dep_value.PackageJsonDepValue.{PackageJsonDepValue}
use Rattle.deno_package_json.specs.declared.dep_value.PackageJsonDepValue.TheVariants.{Req, Workspace}
use Rattle.deno_package_json.specs.declared.dep_value.PackageJsonDepValueParseError.{PackageJsonDepValueParseError}
use Rattle.deno_package_json.specs.declared.dep_value.PackageJsonDepValueParseError.TheVariants.{
  VersionReq,
  Unsupported,
}
use Rattle.deno_package_json.specs.Package.{Package, Table}

-- what is required, or why a text says nothing that is supported
abbrev pub Required : Type 0
Required = Result PackageJsonDepValue PackageJsonDepValueParseError

-- a range or a tag of npm as what it means, or the place where it doesn't read
abbrev pub read_as : List ℕ → (Requirement → PackageJsonDepValue) → Result Meaning ℕ → Required
read_as text made (Ok meaning) = Ok (made (record { text = text; meaning = meaning }))
read_as text made (Err place) = Err (VersionReq text place)

abbrev pub of_workspace : List ℕ → Required
of_workspace range = read_as range Workspace (meaning_of range)

abbrev pub of_package : List ℕ × List ℕ → Required
of_package named = read_as named.1 (λ req. Req (record { name = named.0; version_req = req })) (meaning_of named.1)

-- what stands before the first `:` and what follows it, where there is one
abbrev pub around_colon : List ℕ → Option (List ℕ × List ℕ)
around_colon [] = None
around_colon (c ∷ cs) =
    if c == 58 then Some ([], cs) else option_map (λ parted. (c ∷ parted.0, parted.1)) (around_colon cs)

abbrev pub is_unsupported : List ℕ → Bool
is_unsupported scheme = bytes_eq scheme (codes "file")
    || (bytes_eq scheme (codes "git") || (bytes_eq scheme (codes "http") || bytes_eq scheme (codes "https")))

-- by the text before the first `:`. Behind `npm:` stands a name, which ends at the last `@` that isn't the first byte,
-- and a range
abbrev pub by_scheme : List ℕ → List ℕ → Option (List ℕ × List ℕ) → Required
by_scheme name value None = of_package (name, value)
by_scheme name value (Some parted) =
    if bytes_eq parted.0 (codes "workspace") then of_workspace parted.1
    else (if is_unsupported parted.0 then Err (Unsupported parted.0)
    else (if bytes_eq parted.0 (codes "npm") then of_package (name_and_range parted.1)
    else of_package (name, value)))

-- what a value requires under a name
abbrev pub required : List ℕ → List ℕ → Required
required name value = by_scheme name value (around_colon value)

abbrev pub Requirements : Type 0
Requirements = List (List ℕ × Required)

-- a name that isn't there yet goes behind the others
abbrev pub with_new : Requirements → List ℕ × List ℕ → Requirements
with_new found entry =
    if is_some (lookup (bytes_eq entry.0) found) then found else found ++ (entry.0, required entry.0 entry.1) ∷ []

abbrev pub with_table : Requirements → Option Table → Requirements
with_table found table = fold with_new found (unwrap_or table [])

-- the names of `dependencies`, then those of `devDependencies` that aren't there yet
abbrev pub requirements_of : Package → Requirements
requirements_of p = with_table (with_table [] p.dependencies) p.dev_dependencies
