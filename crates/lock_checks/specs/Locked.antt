-- What a lock promises of a binding that passes its checks.
use Rattle.std.specs.Prelude.{◌≡◌, ℕ, true, false, List, Some, Ok, IsTrue}
use Rattle.tree_core.specs.Tree.{Files}
use Rattle.npm_req.specs.Requirement.{Requirement}
use Rattle.yarn_lock_parser.specs.Entry.{Entry}
use Rattle.yarn_lock_parser.specs.Lock.{Lock}
use Rattle.pnp_core.specs.declared.manifest.PackageLocator.{PackageLocator}
use Rattle.pnp_core.specs.Manifest.{Contents}
use Rattle.pnp_core.specs.PhysicalPlace.{place_of}
use Rattle.lock_checks.specs.Naming.{first_naming}
use Rattle.lock_checks.specs.OnTree.{location_on, range_in_place_on}
use Rattle.lock_checks.specs.Range.{is_within}
use Rattle.lock_checks.specs.Reference.{is_npm, is_workspace}

-- An entry names the package; and of npm's packages the first such entry has a version that can be read and is within
-- the range that the asking package declares on the tree, where it declares one.
pub record IsLocked (t : Files) (lock : Lock) (manifest : Contents) (owner : PackageLocator) (name : List ℕ)
    (bound : PackageLocator) : Type 0 where
  pub entry : Entry
  pub first : first_naming lock bound ≡ Some entry
  pub within : (range : Requirement) → is_npm bound.reference ≡ true
      → (range_in_place_on t (place_of manifest owner) name).result ≡ Ok (Some range)
      → IsTrue (is_within range entry.version)

-- a binding that passes the checks is locked, unless it is to a package of the workspace
abbrev pub PassesAsLocked : Type 0
PassesAsLocked =
    (t : Files) (lock : Lock) (manifest : Contents) (owner : PackageLocator) (name : List ℕ) (bound : PackageLocator)
    (location : List ℕ)
    → (location_on t (Some lock) manifest owner name bound).result ≡ Ok location
    → is_workspace bound.reference ≡ false
    → IsLocked t lock manifest owner name bound
