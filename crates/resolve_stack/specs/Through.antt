-- What a file that was found through a row has to do with that row.
use Rattle.std.specs.Prelude.{◌≡◌, ◌⊎◌, ℕ, true, false, List, Option, Some, None, Ok}
use Rattle.sugar_path.specs.Path.{Path, clean, below, text_of}
use Rattle.tree_core.specs.Tree.{Files}
use Rattle.pnp_core.specs.declared.manifest.PackageLocator.{PackageLocator}
use Rattle.pnp_core.specs.declared.manifest.Binding.TheVariants.{Bound}
use Rattle.pnp_core.specs.BareIdentifier.{split_bare}
use Rattle.pnp_core.specs.Manifest.{Contents, locator, location_of}
use Rattle.pnp_core.specs.Owner.{owner}
use Rattle.pnp_core.specs.Binding.{bind}
use Rattle.pnp_core.specs.OnTree.{nearest_on, loaded_on}
use Rattle.pnp_core.specs.PhysicalPlace.{physical_place}
use Rattle.yarn_lock_parser.specs.Lock.{Lock}
use Rattle.lock_checks.specs.Locked.{IsLocked}
use Rattle.lock_checks.specs.Reference.{is_workspace}
use Rattle.swc_loader.specs.Settings.{alias_of}
use Rattle.swc_loader.specs.declared.resolution.FileName.TheVariants.{Real}
use Rattle.swc_loader.specs.declared.resolution.Resolution.{Resolution}
use Rattle.swc_loader.specs.declared.resolution.Via.{Via}
use Rattle.swc_loader.specs.declared.resolution.Found.{Found}
use Rattle.resolver_core.specs.Mapping.{Mapping, mapped}
use Rattle.resolver_core.specs.MappingOnTree.{tells_on, tries_in, IsFirstAnswer}
use Rattle.resolve_stack.specs.declared.verdict.Verdict.{Verdict}
use Rattle.resolve_stack.specs.declared.verdict.Verdict.TheVariants.{Answered, Refused}
use Rattle.resolve_stack.specs.Settings.{ProjectSettings}
use Rattle.resolve_stack.specs.Request.{Request, asked_for}
use Rattle.resolve_stack.specs.Order.{join_order}

-- a file lies below the location of a row
pub record LiesBelow (file location : List ℕ) : Type 0 where
  pub path : Path
  pub folder : Path
  pub file_is : file ≡ text_of path
  pub location_is : location ≡ text_of folder
  pub within : below path folder ≡ true

-- Where there is a lock, it holds the binding of a name to a package that isn't of the workspace.
abbrev pub IsHeldBy : Files → Option Lock → Contents → PackageLocator → List ℕ → PackageLocator → Type 0
IsHeldBy t None contents asking name bound = Unit {0}
IsHeldBy t (Some lock) contents asking name bound =
    is_workspace bound.reference ≡ false → IsLocked t lock contents asking name bound

-- The importer is a path. The manifest nearest to it says who owns it, and the owner's row, or an allowed fallback,
-- binds the name asked for (that of the specifier's alias, where it has one) to the package whose row has a location
-- with this physical place. The file lies below it.
pub record ThroughRow (t : Files) (project : ProjectSettings) (request : Request) (file : List ℕ) (v : Via) : Type 0
  where
    pub importer : List ℕ
    pub manifest : Path
    pub contents : Contents
    pub asking : PackageLocator
    pub name : List ℕ
    pub subpath : Option (List ℕ)
    pub location : List ℕ
    pub folder : Path
    pub from : request.importer ≡ Real importer
    pub nearest : (nearest_on t (clean project.node.cwd importer)).result ≡ Some manifest
    pub reads : (loaded_on t manifest).result ≡ Ok contents
    pub owns : owner contents (clean project.node.cwd importer) ≡ Some asking
    pub names : split_bare (alias_of project.node request.specifier) ≡ Some (name, subpath)
    pub binds : bind contents asking name ≡ Bound (locator v.name v.reference)
    pub row : location_of contents (locator v.name v.reference) ≡ Some location
    pub locked : IsHeldBy t project.lock contents asking name (locator v.name v.reference)
    pub place : physical_place location ≡ Some folder
    pub told : v.location ≡ text_of folder
    pub lies : LiesBelow file v.location

abbrev pub IsFoundVia : Files → ProjectSettings → Request → List ℕ → Option Via → Type 0
IsFoundVia t project request file None = Unit {0}
IsFoundVia t project request file (Some v) = ThroughRow t project request file v

abbrev pub IsFoundFrom : Files → ProjectSettings → Request → Option Found → Type 0
IsFoundFrom t project request None = Unit {0}
IsFoundFrom t project request (Some found) = IsFoundVia t project request found.file found.via

-- What is made of the first inner request of a mapping that the join answers was found by that request.
pub record IsFoundByTry (t : Files) (project : ProjectSettings) (mapping : Mapping) (request : Request)
    (r : Resolution) : Type 0 where
  pub first : IsFirstAnswer (tells_on t (join_order project))
      (tries_in (mapped mapping request.importer request.specifier)) r
  pub found : IsFoundFrom t project (asked_for first.by.base first.by.specifier) r.found

-- Behind a mapping the inner request that decides says by what, and for what, it was found, or no file is told.
-- Without one it is the request itself.
abbrev pub IsFoundBehind : Files → ProjectSettings → Option Mapping → Request → Resolution → Type 0
IsFoundBehind t project None request r = IsFoundFrom t project request r.found
IsFoundBehind t project (Some mapping) request r =
    (r.found ≡ None) ⊎ IsFoundByTry t project mapping request r

-- what a verdict answers was found as it says
abbrev pub IsFound : Files → ProjectSettings → Request → Verdict → Type 0
IsFound t project request (Answered r) = IsFoundBehind t project project.mapping request r
IsFound t project request (Refused refusal) = Unit {0}
