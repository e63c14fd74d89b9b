-- What the checks come to on a tree, with their questions, as plain functions of the tree: the laws by which a reader
-- checks the plans.
use Rattle.std.specs.Prelude.{◌≡◌, ℕ, if◌then◌else◌, List, Option, Some, None, Result, Ok, Err}
use Rattle.sugar_path.specs.Path.{Path}
use Rattle.tree_core.specs.Tree.{Files}
use Rattle.tree_core.specs.Told.{Told, told, unasked, made, read_on, ◌>>=?◌}
use Rattle.npm_req.specs.Requirement.{Requirement}
use Rattle.yarn_lock_parser.specs.Entry.{Entry}
use Rattle.yarn_lock_parser.specs.Lock.{Lock}
use Rattle.pnp_core.specs.declared.manifest.PackageLocator.{PackageLocator}
use Rattle.pnp_core.specs.Manifest.{Contents}
use Rattle.pnp_core.specs.PhysicalPlace.{place_of}
use Rattle.lock_checks.specs.declared.fault.EdgeFault.{EdgeFault}
use Rattle.lock_checks.specs.declared.fault.EdgeFault.TheVariants.{NotLocked}
use Rattle.lock_checks.specs.Checks.{checked_location, registered}
use Rattle.lock_checks.specs.Fault.{binding_fault, fault_in}
use Rattle.lock_checks.specs.Naming.{first_naming}
use Rattle.lock_checks.specs.Range.{package_json, range_in_content, within}
use Rattle.lock_checks.specs.Reference.{is_npm, is_workspace}

-- the range that the package.json of a place declares; without a place nothing is asked
abbrev pub range_in_place_on : Files → Option Path → List ℕ → Told (Result (Option Requirement) EdgeFault)
range_in_place_on t None name = unasked (Ok None)
range_in_place_on t (Some folder) name =
    made (range_in_content (package_json folder) name) (read_on t (package_json folder))

-- an entry's version is held to the range that the asking package declares
abbrev pub range_check_on : Files → Contents → PackageLocator → List ℕ → Entry → Told (Result (Unit {0}) EdgeFault)
range_check_on t manifest owner name entry =
    range_in_place_on t (place_of manifest owner) name >>=? λ range. unasked (within range entry.version)

-- the check by the entry that names the bound package; only npm's packages are held to a range
abbrev pub entry_check_on : Files → Contents → PackageLocator → List ℕ → PackageLocator → Option Entry
    → Told (Result (Unit {0}) EdgeFault)
entry_check_on t manifest owner name bound None = unasked (Err NotLocked)
entry_check_on t manifest owner name bound (Some entry) =
    if is_npm bound.reference then range_check_on t manifest owner name entry else unasked (Ok tt)

-- what a lock says of a binding; without a lock, and of a package of the workspace, nothing is asked
abbrev pub check_on : Files → Option Lock → Contents → PackageLocator → List ℕ → PackageLocator
    → Told (Result (Unit {0}) EdgeFault)
check_on t None manifest owner name bound = unasked (Ok tt)
check_on t (Some lock) manifest owner name bound =
    if is_workspace bound.reference
    then unasked (Ok tt)
    else entry_check_on t manifest owner name bound (first_naming lock bound)

-- the location of the bound package, or the first check that refuses the binding
abbrev pub location_on : Files → Option Lock → Contents → PackageLocator → List ℕ → PackageLocator
    → Told (Result (List ℕ) EdgeFault)
location_on t lock manifest owner name bound =
    unasked (registered manifest bound)
    >>=? λ location. check_on t lock manifest owner name bound
    >>=? λ passed. unasked (Ok location)

-- the checks of a binding, on each tree
pub record LocationOnTree : Type 0 where
  pub tells : (t : Files) (lock : Option Lock) (manifest : Contents) (owner : PackageLocator) (name : List ℕ)
      (bound : PackageLocator) →
      told t (checked_location lock manifest owner name bound) ≡ location_on t lock manifest owner name bound

-- why a binding is refused, on each tree
pub record FaultOnTree : Type 0 where
  pub tells : (t : Files) (lock : Option Lock) (manifest : Contents) (owner : PackageLocator) (name : List ℕ)
      (bound : PackageLocator) →
      told t (binding_fault lock manifest owner name bound) ≡ made fault_in
      (location_on t lock manifest owner name bound)
