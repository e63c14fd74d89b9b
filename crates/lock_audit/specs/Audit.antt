-- The audit of a manifest by a lock, as a plan of questions.
-- A `do` here is over plans: a plan puts its questions, and the next one goes on by what it came to.
use Rattle.std.specs.Prelude.{ℕ, ◌-◌, ◌^◌, min, List, [], ◌∷◌, length, Option, Some, None, Result, Ok, Err}
use Rattle.sugar_path.specs.Path.{Path}
use Rattle.tree_core.specs.Asks.{raised}
use Rattle.tree_core.specs.Plan.{Plan, Done, ◌>>=◌, ◌>>=?◌}
use Rattle.lock_checks.specs.declared.fault.EdgeFault.{EdgeFault}
use Rattle.lock_checks.specs.Fault.{binding_fault}
use Rattle.pnp_core.specs.declared.error.HydrationCause.{HydrationCause}
use Rattle.pnp_core.specs.Loading.{loading}
use Rattle.pnp_core.specs.Manifest.{Contents}
use Rattle.yarn_lock_parser.specs.Lock.{Lock}
use Rattle.lock_audit.specs.declared.audited.Audit.{Audit}
use Rattle.lock_audit.specs.declared.audited.Finding.{Finding}
use Rattle.lock_audit.specs.declared.edges.RowEdge.{RowEdge}
use Rattle.lock_audit.specs.Edges.{edges, finding}
use Rattle.lock_audit.specs.Entries.{unused_entries}

-- the first check that refuses an edge, where one does
abbrev pub fault_at : Lock → Contents → RowEdge → Plan (Option EdgeFault)
fault_at lock manifest edge = binding_fault (Some lock) manifest edge.owner edge.name edge.bound

-- what is found at an edge, in front of what is found behind it
abbrev pub with_fault : RowEdge → Option EdgeFault → List Finding → List Finding
with_fault edge None found = found
with_fault edge (Some fault) found = finding edge fault ∷ found

-- the edges that are refused, in their order
abbrev pub findings : Lock → Contents → List RowEdge → Plan (List Finding)
findings lock manifest [] = Done []
findings lock manifest (edge ∷ edges) = do
  fault ← fault_at lock manifest edge
  found ← findings lock manifest edges
  Done (with_fault edge fault found)

-- how many edges there are, up to the greatest number
abbrev pub count_of : List RowEdge → ℕ
count_of edges = min (length edges) (2 ^ 64 - 1)

-- what is told of a manifest whose refused edges are known
abbrev pub audit_with : Lock → Contents → List Finding → Audit
audit_with lock manifest found = record {
  findings = found;
  unused = unused_entries lock manifest;
  edges = count_of (edges manifest);
}

-- the audit of a manifest
unfoldable pub audit_of : Lock → Contents → Plan Audit
audit_of lock manifest = do
  found ← findings lock manifest (edges manifest)
  Done (audit_with lock manifest found)

-- the audit of the manifest that a file is, or the cause why it is none
unfoldable pub audit_by : Lock → Path → Plan (Result Audit HydrationCause)
audit_by lock file = loading file >>=? λ manifest. audit_of lock manifest >>= λ audit. Done (Ok audit)

-- why there is no audit: the project has no lock, or the file is no manifest
pub data Refusal : Type 0 where
  NoLock : Refusal
  NoManifest : HydrationCause → Refusal

-- the audit of the manifest that a file is, by a lock
abbrev pub audit : Option Lock → Path → Plan (Result Audit Refusal)
audit None file = Done (Err NoLock)
audit (Some lock) file = raised NoManifest (audit_by lock file)
