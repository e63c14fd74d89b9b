-- No line of an audit holds a float, so that its compact text is known.
use Rattle.std.proofs.Common.{◌≡◌, false, refl}
use Rattle.serde_json.specs.Written.{has_float}
use Rattle.lock_checks.specs.declared.fault.EdgeFault.{EdgeFault}
use Rattle.lock_checks.specs.declared.fault.EdgeFault.TheVariants.{
  NotInRegistry,
  NotLocked,
  MalformedPackage,
  OutOfRange,
}
use Rattle.lock_audit.specs.declared.audited.Finding.{Finding}
use Rattle.audit_report.specs.Lines.{fault_value, finding_value}

fault_without : (fault : EdgeFault) → has_float (fault_value fault) ≡ false
fault_without NotInRegistry = refl
fault_without NotLocked = refl
fault_without (MalformedPackage path) = refl
fault_without (OutOfRange range version) = refl

pub finding_without : (f : Finding) → has_float (finding_value f) ≡ false
finding_without f = rw (fault_without f.fault) refl
