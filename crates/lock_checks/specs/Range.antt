-- The range of versions that a package's own package.json declares under a name.
-- A `do` here is over plans: a plan puts its questions, and the next one goes on by what it came to.
use Rattle.std.specs.Prelude.{
  ℕ,
  Bool,
  false,
  if◌then◌else◌,
  is_some,
  List,
  ◌∷◌,
  Option,
  Some,
  None,
  Result,
  Ok,
  Err,
  bytes_eq,
  codes,
  option_and_then,
}
use Rattle.std.specs.Map.{lookup}
use Rattle.std.specs.Option.{option_map_or}
use Rattle.std.specs.Str.Lossy.{utf8_lossy}
use Rattle.sugar_path.specs.Path.{Path, text_of}
use Rattle.tree_core.specs.Plan.{Plan, Done, read, ◌>>=◌}
use Rattle.npm_req.specs.Requirement.{Requirement, tag_of, meets_meaning}
use Rattle.npm_req.specs.Version.{version_of}
use Rattle.deno_package_json.specs.declared.dep_value.PackageJsonDepValue.TheVariants.{Req, Workspace}
use Rattle.deno_package_json.specs.declared.error.PackageJsonLoadError.{PackageJsonLoadError}
use Rattle.deno_package_json.specs.Package.{Package}
use Rattle.deno_package_json.specs.Loading.{from_text}
use Rattle.deno_package_json.specs.Requirements.{Required, Requirements, requirements_of}
use Rattle.pnp_core.specs.declared.manifest.PackageLocator.{PackageLocator}
use Rattle.pnp_core.specs.Manifest.{Contents}
use Rattle.pnp_core.specs.PhysicalPlace.{place_of}
use Rattle.lock_checks.specs.declared.fault.EdgeFault.{EdgeFault}
use Rattle.lock_checks.specs.declared.fault.EdgeFault.TheVariants.{MalformedPackage, OutOfRange}

-- a tag is no range
abbrev pub unless_tag : Requirement → Option Requirement
unless_tag required = if is_some (tag_of required.meaning) then None else Some required

-- The range that a requirement declares. A package of the workspace, and what isn't supported, declare none.
abbrev pub range_of : Required → Option Requirement
range_of (Ok (Req named)) = unless_tag named.version_req
range_of (Ok (Workspace required)) = None
range_of (Err fault) = None

-- the range that requirements have under a name
abbrev pub range_among : List ℕ → Requirements → Option Requirement
range_among name required = option_and_then range_of (lookup (bytes_eq name) required)

-- the range that a package declares under a name
abbrev pub range_under : List ℕ → Package → Option Requirement
range_under name says = range_among name (requirements_of says)

-- a package.json that can't be read refuses the binding
abbrev pub range_or_malformed : Path → List ℕ → Result Package PackageJsonLoadError
    → Result (Option Requirement) EdgeFault
range_or_malformed file name (Ok says) = Ok (range_under name says)
range_or_malformed file name (Err fault) = Err (MalformedPackage (text_of file))

-- the range that the bytes of a package.json declare, with U+FFFD for what is no UTF-8. A file that isn't there
-- declares none.
abbrev pub range_in_content : Path → List ℕ → Option (List ℕ) → Result (Option Requirement) EdgeFault
range_in_content file name None = Ok None
range_in_content file name (Some bytes) = range_or_malformed file name (from_text (text_of file) (utf8_lossy bytes))

abbrev pub package_json : Path → Path
package_json folder = codes "package.json" ∷ folder

-- the range that the package.json of a folder declares
unfoldable pub range_in_folder : Path → List ℕ → Plan (Result (Option Requirement) EdgeFault)
range_in_folder folder name = do
  content ← read (package_json folder)
  Done (range_in_content (package_json folder) name content)

-- without a folder nothing is asked, and nothing declared
abbrev pub range_in_place : Option Path → List ℕ → Plan (Result (Option Requirement) EdgeFault)
range_in_place None name = Done (Ok None)
range_in_place (Some folder) name = range_in_folder folder name

-- The range that the package of a row declares under a name. A package inside an archive declares none.
abbrev pub declared_range : Contents → PackageLocator → List ℕ → Plan (Result (Option Requirement) EdgeFault)
declared_range manifest owner name = range_in_place (place_of manifest owner) name

-- the version can be read, and is within the range
abbrev pub is_within : Requirement → List ℕ → Bool
is_within range version = option_map_or (λ v. meets_meaning v range.meaning) (version_of version) false

-- a version that isn't within a declared range is refused
abbrev pub within : Option Requirement → List ℕ → Result (Unit {0}) EdgeFault
within None version = Ok tt
within (Some range) version = if is_within range version then Ok tt else Err (OutOfRange range.text version)
