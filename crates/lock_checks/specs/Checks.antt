-- The checks of a binding, as plans of questions: that the bound package has a row, and that the lock allows it. A `do`
-- here is over plans of results: the next plan goes on with what a check gives, and a check's refusal ends them all.
use Rattle.std.specs.Prelude.{ℕ, if◌then◌else◌, List, Option, Some, None, ok_or, Result, Ok, Err}
use Rattle.tree_core.specs.Plan.{Plan, Done}
use Rattle.tree_core.specs.Resolving.{◌>>=◌}
use Rattle.yarn_lock_parser.specs.Entry.{Entry}
use Rattle.yarn_lock_parser.specs.Lock.{Lock}
use Rattle.pnp_core.specs.declared.manifest.PackageLocator.{PackageLocator}
use Rattle.pnp_core.specs.Manifest.{Contents, location_of}
use Rattle.lock_checks.specs.declared.fault.EdgeFault.{EdgeFault}
use Rattle.lock_checks.specs.declared.fault.EdgeFault.TheVariants.{NotInRegistry, NotLocked}
use Rattle.lock_checks.specs.Naming.{first_naming}
use Rattle.lock_checks.specs.Range.{declared_range, within}
use Rattle.lock_checks.specs.Reference.{is_npm, is_workspace}

-- the location of a package's row
abbrev pub registered : Contents → PackageLocator → Result (List ℕ) EdgeFault
registered manifest locator = ok_or (location_of manifest locator) NotInRegistry

-- an entry's version is held to the range that the asking package declares
unfoldable pub range_check : Contents → PackageLocator → List ℕ → Entry → Plan (Result (Unit {0}) EdgeFault)
range_check manifest owner name entry = do
  range ← declared_range manifest owner name
  Done (within range entry.version)

-- A package that no entry names isn't locked. Beyond that only npm's packages are checked.
abbrev pub entry_check : Contents → PackageLocator → List ℕ → PackageLocator → Option Entry
    → Plan (Result (Unit {0}) EdgeFault)
entry_check manifest owner name bound None = Done (Err NotLocked)
entry_check manifest owner name bound (Some entry) =
    if is_npm bound.reference then range_check manifest owner name entry else Done (Ok tt)

-- A package of the workspace needs no entry.
abbrev pub lock_check : Lock → Contents → PackageLocator → List ℕ → PackageLocator → Plan (Result (Unit {0}) EdgeFault)
lock_check lock manifest owner name bound =
    if is_workspace bound.reference
    then Done (Ok tt)
    else entry_check manifest owner name bound (first_naming lock bound)

-- without a lock nothing is held to it
abbrev pub check_by : Option Lock → Contents → PackageLocator → List ℕ → PackageLocator
    → Plan (Result (Unit {0}) EdgeFault)
check_by None manifest owner name bound = Done (Ok tt)
check_by (Some lock) manifest owner name bound = lock_check lock manifest owner name bound

-- The location of the bound package, where a name that an owner asks for is bound to it and no check refuses that.
unfoldable pub checked_location : Option Lock → Contents → PackageLocator → List ℕ → PackageLocator
    → Plan (Result (List ℕ) EdgeFault)
checked_location lock manifest owner name bound = do
  location ← Done (registered manifest bound)
  passed ← check_by lock manifest owner name bound
  Done (Ok location)
