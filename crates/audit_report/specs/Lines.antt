-- The lines of an audit: for each finding, each unused entry and the summary the compact text of a JSON object.
use Rattle.std.specs.Prelude.{ℕ, List, [], ◌∷◌, ◌++◌, codes, flat_map, length}
use Rattle.serde_json.specs.Data.{Data, number, string, object, no_members, member, unsigned}
use Rattle.serde_json.specs.Written.{compact_text}
use Rattle.lock_checks.specs.declared.fault.EdgeFault.{EdgeFault}
use Rattle.lock_checks.specs.declared.fault.EdgeFault.TheVariants.{
  NotInRegistry,
  NotLocked,
  MalformedPackage,
  OutOfRange,
}
use Rattle.resolve_stack.specs.declared.verdict.JoinRefusal.TheVariants as refusal
use Rattle.report_core.specs.Verdicts.{kind_value, locator_value, refusal_value}
use Rattle.lock_audit.specs.declared.audited.Audit.{Audit}
use Rattle.lock_audit.specs.declared.audited.Finding.{Finding}
use Rattle.lock_audit.specs.declared.audited.Unused.{Unused}

-- why a binding is refused, by its kind, with what it tells
abbrev pub fault_value : EdgeFault → Data
fault_value NotInRegistry = kind_value (codes "NotInRegistry")
fault_value NotLocked = kind_value (codes "NotLocked")
fault_value (MalformedPackage path) = refusal_value (refusal.MalformedPackage path)
fault_value (OutOfRange range version) = refusal_value (refusal.OutOfRange range version)

-- a binding that is refused
abbrev pub finding_value : Finding → Data
finding_value f = object
    (member (codes "bound") (locator_value f.bound)
    (member (codes "fault") (fault_value f.fault)
    (member (codes "name") (string f.name)
    (member (codes "owner") (locator_value f.owner) no_members))))

-- an entry that names no package
abbrev pub unused_value : Unused → Data
unused_value u = object (member (codes "unused")
    (object (member (codes "name") (string u.name)
    (member (codes "resolved") (string u.resolved) no_members))) no_members)

-- how many bindings there are, how many are refused, and how many entries are unused
abbrev pub summary_value : Audit → Data
summary_value audit = object
    (member (codes "edges") (number (unsigned audit.edges))
    (member (codes "findings") (number (unsigned (length audit.findings)))
    (member (codes "unused") (number (unsigned (length audit.unused))) no_members)))

-- the line of a value
unfoldable pub line_of : Data → List ℕ
line_of value = compact_text value ++ 10 ∷ []

abbrev pub finding_lines : List Finding → List ℕ
finding_lines findings = flat_map (λ f. line_of (finding_value f)) findings

abbrev pub unused_lines : List Unused → List ℕ
unused_lines unused = flat_map (λ u. line_of (unused_value u)) unused

-- the lines of an audit: its findings, its unused entries, and the summary
abbrev pub audit_lines : Audit → List ℕ
audit_lines audit = finding_lines audit.findings ++ unused_lines audit.unused ++ line_of (summary_value audit)
