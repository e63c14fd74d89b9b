-- What is found is what the registry row and the lock row of the order refuse.
use Rattle.std.proofs.Common.{◌≡◌, ℕ, List, [], ◌∷◌, Option, Some, None, Result, Ok, Err, refl, ap, arith}
use Rattle.std.specs.Prelude.{Contains, option_map, option_and_then}
use Rattle.std.specs.List.{AllByRecursion, cons_option, filter_map}
use Rattle.std.proofs.lemmas.List.Elements.{All-contains, All-from_recursion}
use Rattle.tree_core.specs.Asks.{widened}
use Rattle.tree_core.specs.Tree.{Files}
use Rattle.lock_checks.specs.declared.fault.EdgeFault.{EdgeFault}
use Rattle.lock_checks.specs.declared.fault.EdgeFault.TheVariants.{
  NotInRegistry,
  NotLocked,
  MalformedPackage,
  OutOfRange,
}
use Rattle.lock_checks.specs.Fault.{fault_in}
use Rattle.lock_checks.specs.OnTree.{location_on}
use Rattle.pnp_core.specs.declared.manifest.PackageDependency.{PackageDependency}
use Rattle.pnp_core.specs.declared.manifest.PackageLocator.{PackageLocator}
use Rattle.pnp_core.specs.Manifest.{Contents, Package, at, locator, package_at, rows, rows_under}
use Rattle.resolve_stack.specs.Rows.{of_fault}
use Rattle.resolve_stack.specs.Settings.{ProjectSettings}
use Rattle.yarn_lock_parser.specs.Lock.{Lock}
use Rattle.lock_audit.specs.declared.audited.Finding.{Finding}
use Rattle.lock_audit.specs.declared.edges.RowEdge.{RowEdge}
use Rattle.lock_audit.specs.Edges.{edge, edge_of, edges, edges_of_row, finding}
use Rattle.lock_audit.specs.Laws.{BindsOwn, FindingsAreRefusals, Passes, PassesWithoutFindings, Refuses, found_in}
use Rattle.lock_audit.specs.OnTree.{finding_on}
use Rattle.lock_audit.proofs.OwnEdges.{found_once}
use Rattle.lock_audit.proofs.Splits.{
  Splits,
  splits-contains,
  splits-filter_map,
  splits-flat_map,
  splits-lookup,
  splits-map,
}

-- refusals of one package tell their faults
fault-same : (bound : PackageLocator) (a b : EdgeFault) → of_fault bound a ≡ of_fault bound b → a ≡ b
fault-same bound NotInRegistry NotInRegistry h = refl
fault-same bound NotInRegistry NotLocked h = cc
fault-same bound NotInRegistry (MalformedPackage p) h = cc
fault-same bound NotInRegistry (OutOfRange r v) h = cc
fault-same bound NotLocked NotInRegistry h = cc
fault-same bound NotLocked NotLocked h = refl
fault-same bound NotLocked (MalformedPackage p) h = cc
fault-same bound NotLocked (OutOfRange r v) h = cc
fault-same bound (MalformedPackage p) NotInRegistry h = cc
fault-same bound (MalformedPackage p) NotLocked h = cc
fault-same bound (MalformedPackage p) (MalformedPackage q) h = cc
fault-same bound (MalformedPackage p) (OutOfRange r v) h = cc
fault-same bound (OutOfRange r v) NotInRegistry h = cc
fault-same bound (OutOfRange r v) NotLocked h = cc
fault-same bound (OutOfRange r v) (MalformedPackage p) h = cc
fault-same bound (OutOfRange r v) (OutOfRange s w) h = cc

fault_of : (bound : PackageLocator) (fault : EdgeFault) (r : Result (List ℕ) EdgeFault)
    → widened (of_fault bound) r ≡ Err (of_fault bound fault) → r ≡ Err fault
fault_of bound fault (Ok location) h = cc
fault_of bound fault (Err other) h =
    let same : of_fault bound other ≡ of_fault bound fault = cc in
    ap Err (fault-same bound other fault same)

-- what is found at an edge is refused
at_edge : (t : Files) (project : ProjectSettings) (lock : Lock) (manifest : Contents) (e : RowEdge)
    (r : Result (List ℕ) EdgeFault) (found : List Finding)
    → project.lock ≡ Some lock → (location_on t (Some lock) manifest e.owner e.name e.bound).result ≡ r
    → AllByRecursion (λ f. Refuses t project manifest f.owner f.name f.bound f.fault) found
    → AllByRecursion (λ f. Refuses t project manifest f.owner f.name f.bound f.fault)
    (cons_option (option_map (finding e) (fault_in r)) found)
at_edge t project lock manifest e (Ok location) found held is rest = rest
at_edge t project lock manifest e (Err fault) found held is rest = (rw held (ap (widened (of_fault e.bound)) is), rest)

all_refused : (t : Files) (project : ProjectSettings) (lock : Lock) (manifest : Contents) (es : List RowEdge)
    → project.lock ≡ Some lock
    → AllByRecursion (λ f. Refuses t project manifest f.owner f.name f.bound f.fault)
    (filter_map (finding_on t lock manifest) es)
all_refused t project lock manifest [] held = tt
all_refused t project lock manifest (e ∷ es) held =
    at_edge t project lock manifest e (location_on t (Some lock) manifest e.owner e.name e.bound).result
    (filter_map (finding_on t lock manifest) es) held refl
    (all_refused t project lock manifest es held)

-- the row of a package
package_splits : (manifest : Contents) (owner : PackageLocator) (says : Package)
    → package_at manifest.package_registry_data owner ≡ Some says
    → Splits (rows manifest.package_registry_data) (owner, says)
package_splits manifest owner says is = by_references (at owner.name manifest.package_registry_data) refl is
  where
    by_references : (found : Option (List (List ℕ × Package))) → at owner.name manifest.package_registry_data ≡ found
        → option_and_then (at owner.reference) found ≡ Some says
        → Splits (rows manifest.package_registry_data) (owner, says)
    by_references None named h = cc
    by_references (Some references) named h =
        splits-flat_map rows_under manifest.package_registry_data (owner.name, references) (owner, says)
        (splits-map (λ row. (locator owner.name row.0, row.1)) references (owner.reference, says)
        (splits-lookup owner.reference references says h))
        (splits-lookup owner.name manifest.package_registry_data references named)

-- the edge of a name that an owner's own row binds
edge_splits : (manifest : Contents) (owner : PackageLocator) (name : List ℕ) (dependency : PackageDependency)
    (found : Option Package) → package_at manifest.package_registry_data owner ≡ found
    → option_and_then (λ p. at name p.package_dependencies) found ≡ Some (Some dependency)
    → Splits (edges manifest) (edge owner name dependency)
edge_splits manifest owner name dependency None row own = cc
edge_splits manifest owner name dependency (Some says) row own =
    splits-flat_map edges_of_row (rows manifest.package_registry_data) (owner, says) (edge owner name dependency)
    (splits-filter_map (edge_of owner) says.package_dependencies (name, Some dependency) (edge owner name dependency)
    refl (splits-lookup name says.package_dependencies (Some dependency) own))
    (package_splits manifest owner says row)

pub edge_there : (manifest : Contents) (owner : PackageLocator) (name : List ℕ) (bound : PackageLocator)
    → BindsOwn manifest owner name bound → Splits (edges manifest)
    (record { owner = owner; name = name; bound = bound })
edge_there manifest owner name bound binds = rw binds.means (edge_splits manifest owner name binds.dependency
    (package_at manifest.package_registry_data owner) refl binds.own)

-- an edge that is refused is found
found_at : (t : Files) (lock : Lock) (manifest : Contents) (f : Finding) → BindsOwn manifest f.owner f.name f.bound
    → (location_on t (Some lock) manifest f.owner f.name f.bound).result ≡ Err f.fault
    → Contains (found_in t lock manifest) f
found_at t lock manifest f binds refuses =
    let e : RowEdge = record { owner = f.owner; name = f.name; bound = f.bound } in
    let gives : finding_on t lock manifest e ≡ Some f =
    ap (λ (r : Result (List ℕ) EdgeFault). option_map (finding e) (fault_in r)) refuses in
    splits-contains (found_in t lock manifest) f (splits-filter_map (finding_on t lock manifest) (edges manifest) e f
    gives (edge_there manifest f.owner f.name f.bound binds))

pub findings_are_refusals : FindingsAreRefusals
findings_are_refusals = record {
  refused = λ t project lock manifest f held found.
      All-contains (λ g. Refuses t project manifest g.owner g.name g.bound g.fault) (found_in t lock manifest) f
      (All-from_recursion (λ g. Refuses t project manifest g.owner g.name g.bound g.fault) (found_in t lock manifest)
      (all_refused t project lock manifest (edges manifest) held))
      found;
  found = λ t project lock manifest f held binds refuses.
      found_at t lock manifest f binds (fault_of f.bound f.fault _ (rw held at refuses));
  once = found_once;
}

none_in : {A : Type 0} (xs : List A) (x : A) → xs ≡ [] → Contains xs x → ⊥
none_in [] x is inside = let lt = inside.1 in omega (arith, lt)
none_in (y ∷ ys) x is inside = cc

pub passes_without_findings : PassesWithoutFindings
passes_without_findings t project lock manifest owner name bound held none binds =
    by_result (location_on t (Some lock) manifest owner name bound).result refl
  where
    by_result : (r : Result (List ℕ) EdgeFault) → (location_on t (Some lock) manifest owner name bound).result ≡ r
        → Passes t project manifest owner name bound
    by_result (Ok location) is = record {
      binds = rw (binds.own, binds.means) refl;
      location = location;
      passes = rw held (ap (widened (of_fault bound)) is);
    }
    by_result (Err fault) is = absurd (none_in (found_in t lock manifest)
        (record { owner = owner; name = name; bound = bound; fault = fault }) none
        (found_at t lock manifest (record { owner = owner; name = name; bound = bound; fault = fault }) binds is))
