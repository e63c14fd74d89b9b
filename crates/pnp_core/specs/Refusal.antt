-- Which errors are refusals, and which come from the tree.
use Rattle.std.specs.Prelude.{◌≡◌, Result, Ok, Err, refl}
use Rattle.tree_core.specs.declared.tree.ReadError.{ReadError}
use Rattle.tree_core.specs.declared.tree.ReadError.TheVariants.{Fault, NoMemory}
use Rattle.tree_core.specs.Asks.{Layer}
use Rattle.pnp_core.specs.declared.error.BadSpecifier.{BadSpecifier}
use Rattle.pnp_core.specs.declared.error.FailedManifestHydration.{FailedManifestHydration}
use Rattle.pnp_core.specs.declared.error.MissingPeerDependency.{MissingPeerDependency}
use Rattle.pnp_core.specs.declared.error.UndeclaredDependency.{UndeclaredDependency}
use Rattle.pnp_core.specs.declared.error.MissingDependency.{MissingDependency}
use Rattle.pnp_core.specs.declared.manifest.PackageLocator.{PackageLocator}
use Rattle.pnp_core.specs.declared.error.Error.{Error}
use Rattle.pnp_core.specs.declared.error.Error.TheVariants as error

-- A specifier that names no package; a file that is no manifest; a peer that nobody provides; a name that isn't
-- declared; a package that isn't there, which no call tells; a bound locator without a row.
pub data Refusal : Type 0 where
  NoIdentifier : BadSpecifier → Refusal
  NoManifest : FailedManifestHydration → Refusal
  NoPeer : MissingPeerDependency → Refusal
  NotDeclared : UndeclaredDependency → Refusal
  NoDependency : MissingDependency → Refusal
  NoRow : PackageLocator → Refusal

abbrev pub kind : Error → Result Refusal ReadError
kind (error.BadSpecifier refused) = Ok (NoIdentifier refused)
kind (error.FailedManifestHydration refused) = Ok (NoManifest refused)
kind (error.MissingPeerDependency refused) = Ok (NoPeer refused)
kind (error.UndeclaredDependency refused) = Ok (NotDeclared refused)
kind (error.MissingDependency refused) = Ok (NoDependency refused)
kind (error.NotInRegistry locator) = Ok (NoRow locator)
kind error.TreeFault = Err Fault
kind error.NoMemory = Err NoMemory

abbrev pub into : ReadError → Error
into Fault = error.TreeFault
into NoMemory = error.NoMemory

abbrev pub carries : (e : ReadError) → kind (into e) ≡ Err e
carries Fault = refl
carries NoMemory = refl

-- this crate's errors over a tree
abbrev pub pnp : Layer Error Refusal
pnp = record { kind = kind; into = into; carries = carries }

-- the errors of a call that only the tree, or want of memory, breaks off
abbrev pub IsOfTree : Error → Type 0
IsOfTree error.TreeFault = Unit {0}
IsOfTree error.NoMemory = Unit {0}
IsOfTree _ = ⊥

-- the errors of a call that reads a manifest
abbrev pub IsOfManifest : Error → Type 0
IsOfManifest (error.FailedManifestHydration refused) = Unit {0}
IsOfManifest error.TreeFault = Unit {0}
IsOfManifest error.NoMemory = Unit {0}
IsOfManifest _ = ⊥
