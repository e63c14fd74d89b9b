-- The plan of an audit tells what the tree has.
use Rattle.std.proofs.Common.{◌≡◌, List, [], ◌∷◌, Option, Some, None, Ok, Err, refl, ap, ◌∙◌}
use Rattle.std.specs.Prelude.{option_map}
use Rattle.std.specs.List.{cons_option}
use Rattle.sugar_path.specs.Path.{Path}
use Rattle.tree_core.specs.Asks.{widened}
use Rattle.tree_core.specs.Plan.{Done, ◌>>=◌}
use Rattle.tree_core.specs.Told.{told, made}
use Rattle.tree_core.specs.Tree.{Files}
use Rattle.tree_core.proofs.Tellings.{told-by, told-done, told-is, told-made, told-raised, told-refusing}
use Rattle.lock_checks.specs.declared.fault.EdgeFault.{EdgeFault}
use Rattle.lock_checks.proofs.OnTrees.{fault_on_tree}
use Rattle.pnp_core.specs.Loading.{loading}
use Rattle.pnp_core.specs.Manifest.{Contents}
use Rattle.pnp_core.proofs.OnTrees.{loaded_on_tree}
use Rattle.yarn_lock_parser.specs.Lock.{Lock}
use Rattle.lock_audit.specs.declared.audited.Finding.{Finding}
use Rattle.lock_audit.specs.declared.edges.RowEdge.{RowEdge}
use Rattle.lock_audit.specs.Audit.{
  audit,
  audit_by,
  audit_of,
  audit_with,
  fault_at,
  findings,
  with_fault,
  NoLock,
  NoManifest,
}
use Rattle.lock_audit.specs.Edges.{edges, finding}
use Rattle.lock_audit.specs.OnTree.{audit_by_on, audit_of_on, audit_on, fault_on, findings_on, AuditOnTree}

told-fault : (t : Files) (lock : Lock) (manifest : Contents) (e : RowEdge)
    → told t (fault_at lock manifest e) ≡ fault_on t lock manifest e
told-fault t lock manifest e = fault_on_tree.tells t (Some lock) manifest e.owner e.name e.bound

with_fault-is : (e : RowEdge) (fault : Option EdgeFault) (found : List Finding)
    → with_fault e fault found ≡ cons_option (option_map (finding e) fault) found
with_fault-is e None found = refl
with_fault-is e (Some fault) found = refl

told-findings : (t : Files) (lock : Lock) (manifest : Contents) (es : List RowEdge)
    → told t (findings lock manifest es) ≡ findings_on t lock manifest es
told-findings t lock manifest [] = told-done t []
told-findings t lock manifest (e ∷ es) =
    told-by t (fault_at lock manifest e) (λ fault. findings lock manifest es
    >>= λ found. Done (with_fault e fault found)) (told-fault t lock manifest e)
    (λ fault. told-made t (findings lock manifest es) (with_fault e fault)
    ∙ ap (made (with_fault e fault)) (told-findings t lock manifest es))
    ∙ told-is (with_fault-is e (fault_on t lock manifest e).result (findings_on t lock manifest es).result) refl

told-audit_of : (t : Files) (lock : Lock) (manifest : Contents)
    → told t (audit_of lock manifest) ≡ audit_of_on t lock manifest
unfolding audit_of
told-audit_of t lock manifest =
    told-made t (findings lock manifest (edges manifest)) (audit_with lock manifest)
    ∙ ap (made (audit_with lock manifest)) (told-findings t lock manifest (edges manifest))

told-audit_by : (t : Files) (lock : Lock) (file : Path) → told t (audit_by lock file) ≡ audit_by_on t lock file
unfolding audit_by
told-audit_by t lock file =
    told-refusing t (loading file) (λ manifest. audit_of lock manifest >>= λ audit. Done (Ok audit))
    (loaded_on_tree.tells t file)
    (λ manifest. told-made t (audit_of lock manifest) (λ audit. Ok audit)
    ∙ ap (made (λ audit. Ok audit)) (told-audit_of t lock manifest))

told-audit : (t : Files) (lock : Option Lock) (file : Path) → told t (audit lock file) ≡ audit_on t lock file
told-audit t None file = told-done t (Err NoLock)
told-audit t (Some lock) file =
    told-raised t NoManifest (audit_by lock file) ∙ ap (made (widened NoManifest)) (told-audit_by t lock file)

pub audit_on_tree : AuditOnTree
audit_on_tree = record { tells = told-audit }
