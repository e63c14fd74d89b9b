-- Which errors of an audit are refusals, and which come from the tree.
use Rattle.std.specs.Prelude.{◌≡◌, Result, Ok, Err, refl}
use Rattle.tree_core.specs.Asks.{Layer}
use Rattle.tree_core.specs.declared.resolve_error.ResolveError.{ResolveError}
use Rattle.tree_core.specs.declared.resolve_error.ResolveError.TheVariants as loading
use Rattle.tree_core.specs.declared.tree.ReadError.{ReadError}
use Rattle.tree_core.specs.declared.tree.ReadError.TheVariants as read
use Rattle.pnp_core.specs.declared.error.HydrationCause.{HydrationCause}
use Rattle.lock_audit.specs.declared.error.AuditError.{AuditError}
use Rattle.lock_audit.specs.declared.error.AuditError.TheVariants.{Hydration, NoLock, NoMemory, TreeFault}
use Rattle.lock_audit.specs.Audit as audit

-- an error of the reading of a manifest, as the audit's
abbrev pub of_loading : ResolveError HydrationCause → AuditError
of_loading (loading.Refused cause) = Hydration cause
of_loading loading.TreeFault = TreeFault
of_loading loading.NoMemory = NoMemory

abbrev pub kind : AuditError → Result audit.Refusal ReadError
kind NoLock = Ok audit.NoLock
kind (Hydration cause) = Ok (audit.NoManifest cause)
kind TreeFault = Err read.Fault
kind NoMemory = Err read.NoMemory

abbrev pub into : ReadError → AuditError
into read.Fault = TreeFault
into read.NoMemory = NoMemory

abbrev pub carries : (e : ReadError) → kind (into e) ≡ Err e
carries read.Fault = refl
carries read.NoMemory = refl

-- the errors of an audit over a tree
abbrev pub auditing : Layer AuditError audit.Refusal
auditing = record { kind = kind; into = into; carries = carries }
