-- What an audit comes to on a tree, with its questions, as plain functions of the tree: the laws by which a reader
-- checks the plan.
use Rattle.std.specs.Prelude.{◌≡◌, List, Option, Some, None, Result, Ok, Err, flat_map, option_map}
use Rattle.std.specs.List.{filter_map}
use Rattle.sugar_path.specs.Path.{Path}
use Rattle.tree_core.specs.Asks.{widened}
use Rattle.tree_core.specs.Told.{Told, told, unasked, made, ◌>>=?◌}
use Rattle.tree_core.specs.Tree.{Files}
use Rattle.lock_checks.specs.declared.fault.EdgeFault.{EdgeFault}
use Rattle.lock_checks.specs.Fault.{fault_in}
use Rattle.lock_checks.specs.OnTree.{location_on}
use Rattle.pnp_core.specs.declared.error.HydrationCause.{HydrationCause}
use Rattle.pnp_core.specs.Manifest.{Contents}
use Rattle.pnp_core.specs.OnTree.{loaded_on}
use Rattle.yarn_lock_parser.specs.Lock.{Lock}
use Rattle.lock_audit.specs.declared.audited.Audit.{Audit}
use Rattle.lock_audit.specs.declared.audited.Finding.{Finding}
use Rattle.lock_audit.specs.declared.edges.RowEdge.{RowEdge}
use Rattle.lock_audit.specs.Audit.{audit, audit_with, NoLock, NoManifest, Refusal}
use Rattle.lock_audit.specs.Edges.{edges, finding}

-- why an edge is refused on a tree, if it is
abbrev pub fault_on : Files → Lock → Contents → RowEdge → Told (Option EdgeFault)
fault_on t lock manifest edge = made fault_in (location_on t (Some lock) manifest edge.owner edge.name edge.bound)

-- what is found at an edge on a tree
abbrev pub finding_on : Files → Lock → Contents → RowEdge → Option Finding
finding_on t lock manifest edge = option_map (finding edge) (fault_on t lock manifest edge).result

-- what is found at edges, each once and in their order, by the questions of all of them
abbrev pub findings_on : Files → Lock → Contents → List RowEdge → Told (List Finding)
findings_on t lock manifest edges = record {
  result = filter_map (finding_on t lock manifest) edges;
  questions = flat_map (λ edge. (fault_on t lock manifest edge).questions) edges;
}

-- the audit of a manifest
abbrev pub audit_of_on : Files → Lock → Contents → Told Audit
audit_of_on t lock manifest = made (audit_with lock manifest) (findings_on t lock manifest (edges manifest))

-- the audit of the manifest that a file is, or the cause why it is none
abbrev pub audit_by_on : Files → Lock → Path → Told (Result Audit HydrationCause)
audit_by_on t lock file = loaded_on t file >>=? λ manifest. made (λ audit. Ok audit) (audit_of_on t lock manifest)

-- the audit of the manifest that a file is, by a lock if there is one
abbrev pub audit_on : Files → Option Lock → Path → Told (Result Audit Refusal)
audit_on t None file = unasked (Err NoLock)
audit_on t (Some lock) file = made (widened NoManifest) (audit_by_on t lock file)

-- the audit, on each tree
pub record AuditOnTree : Type 0 where
  pub tells : (t : Files) (lock : Option Lock) (file : Path) → told t (audit lock file) ≡ audit_on t lock file
