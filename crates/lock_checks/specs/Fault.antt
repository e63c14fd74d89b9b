-- Why a binding is refused, as a plan of questions.
-- A `do` here is over plans: a plan puts its questions, and the next one goes on by what it came to.
use Rattle.std.specs.Prelude.{ℕ, List, Option, Some, None, Result, Ok, Err}
use Rattle.tree_core.specs.Plan.{Plan, Done, ◌>>=◌}
use Rattle.yarn_lock_parser.specs.Lock.{Lock}
use Rattle.pnp_core.specs.declared.manifest.PackageLocator.{PackageLocator}
use Rattle.pnp_core.specs.Manifest.{Contents}
use Rattle.lock_checks.specs.declared.fault.EdgeFault.{EdgeFault}
use Rattle.lock_checks.specs.Checks.{checked_location}

abbrev pub fault_in : {A : Type 0} → Result A EdgeFault → Option EdgeFault
fault_in (Ok a) = None
fault_in (Err fault) = Some fault

-- the first check that refuses the binding of a name that an owner asks for, where one does
unfoldable pub binding_fault : Option Lock → Contents → PackageLocator → List ℕ → PackageLocator
    → Plan (Option EdgeFault)
binding_fault lock manifest owner name bound = do
  found ← checked_location lock manifest owner name bound
  Done (fault_in found)
