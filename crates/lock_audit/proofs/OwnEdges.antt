-- The edges of a package and a name are what the package's own row binds the name to.
use Rattle.std.proofs.Common.{◌≡◌, ℕ, Bool, true, false, ◌&&◌, List, [], ◌∷◌, Option, Some, None, bytes_eq}
use Rattle.std.proofs.Common.{refl, sym, ap, ◌∙◌}
use Rattle.std.specs.Prelude.{flat_map, filter, option_map, option_and_then}
use Rattle.std.specs.List.{IsDistinct, cons_option, filter_map}
use Rattle.std.specs.Map.{keys_of}
use Rattle.std.specs.Option.{option_to_list}
use Rattle.std.proofs.lemmas.List.Elements.{filter-append}
use Rattle.std.proofs.lemmas.List.Folds.{flat_map-map}
use Rattle.std.proofs.lemmas.Slice.Eq.{bytes_eq-Decides}
use Rattle.tree_core.specs.Tree.{Files}
use Rattle.lock_checks.specs.declared.fault.EdgeFault.{EdgeFault}
use Rattle.pnp_core.specs.declared.manifest.PackageDependency.{PackageDependency}
use Rattle.pnp_core.specs.declared.manifest.PackageLocator.{PackageLocator}
use Rattle.pnp_core.specs.Binding.{given, own}
use Rattle.pnp_core.specs.Manifest.{Contents, Dependencies, Package, at, locator, locator_eq, package_at, rows_under}
use Rattle.yarn_lock_parser.specs.Lock.{Lock}
use Rattle.lock_audit.specs.declared.audited.Finding.{Finding}
use Rattle.lock_audit.specs.declared.edges.RowEdge.{RowEdge}
use Rattle.lock_audit.specs.Edges.{edge, edge_of, edges, edges_of_row, finding}
use Rattle.pnp_core.specs.NamesOnce.{HasNamesOnce}
use Rattle.lock_audit.specs.Laws.{EdgesAreBindings, asks_for, found_for, is_found_for}
use Rattle.lock_audit.specs.OnTree.{fault_on, finding_on}
use Rattle.lock_audit.proofs.AtOneName.{cons_option-nil, filter-filter_map, filter-flat_map, filter_map-filter}
use Rattle.lock_audit.proofs.AtOneName.{flat_map-flat_map, flat_option, given_at}

-- the edges among some that are of a package and a name
abbrev of_name : PackageLocator → List ℕ → List RowEdge → List RowEdge
of_name owner name edges = filter (asks_for owner name) edges

-- the edges of a package and a name, by what the package's row has under the name
abbrev edges_by : PackageLocator → List ℕ → Option (Option PackageDependency) → List RowEdge
edges_by owner name own = option_to_list (option_map (edge owner name) (given own))

-- the edges of a name's rows
abbrev edges_under : List ℕ × List (List ℕ × Package) → List RowEdge
edges_under named = flat_map edges_of_row (rows_under named)

text-same : (a : List ℕ) → bytes_eq a a ≡ true
text-same a = (bytes_eq-Decides a a).1 refl

locator-same : (l : PackageLocator) → locator_eq l l ≡ true
locator-same l = rw (text-same l.name, text-same l.reference) refl

and-false : (b : Bool) → (b && false) ≡ false
and-false true = refl
and-false false = refl

-- a row of another package has none of them
other_row : (owner row : PackageLocator) (name : List ℕ) (bindings : Dependencies)
    → locator_eq owner row ≡ false → of_name owner name (filter_map (edge_of row) bindings) ≡ []
other_row owner row name [] other = refl
other_row owner row name (b ∷ bs) other = by_dependency b.1 (other_row owner row name bs other)
  where
    by_dependency : (d : Option PackageDependency) → of_name owner name (filter_map (edge_of row) bs) ≡ []
        → of_name owner name (cons_option (option_map (edge row b.0) d) (filter_map (edge_of row) bs)) ≡ []
    by_dependency None rest = rest
    by_dependency (Some dependency) rest = rw other rest

-- and no row of another name has
other_rows : (owner : PackageLocator) (name key : List ℕ) (references : List (List ℕ × Package))
    → bytes_eq owner.name key ≡ false → of_name owner name (edges_under (key, references)) ≡ []
other_rows owner name key [] other = refl
other_rows owner name key (r ∷ rs) other =
    filter-append (asks_for owner name) (edges_of_row (locator key r.0, r.1)) (edges_under (key, rs))
    ∙ rw (other_row owner (locator key r.0) name r.1.package_dependencies (rw other refl))
    (other_rows owner name key rs other)

-- what a package's row has for a name
own_row : (owner : PackageLocator) (name : List ℕ) (bindings : Dependencies) → IsDistinct bytes_eq (keys_of bindings)
    → of_name owner name (filter_map (edge_of owner) bindings) ≡ edges_by owner name (at name bindings)
own_row owner name bindings once =
    filter-filter_map (asks_for owner name) (edge_of owner) bindings
    ∙ given_at (λ b. of_name owner name (option_to_list (edge_of owner b))) name bindings others once
    ∙ at_name (at name bindings)
  where
    others : (key : List ℕ) (d : Option PackageDependency) → bytes_eq name key ≡ false
        → of_name owner name (option_to_list (option_map (edge owner key) d)) ≡ []
    others key None other = refl
    others key (Some dependency) other = rw (other, and-false (locator_eq owner owner)) refl

    at_name : (found : Option (Option PackageDependency))
        → flat_option (λ d. of_name owner name (option_to_list (edge_of owner (name, d)))) found
        ≡ edges_by owner name found
    at_name None = refl
    at_name (Some None) = refl
    at_name (Some (Some dependency)) = rw (locator-same owner, text-same name) refl

-- the edges of a package and a name, by what the registry has under the package's reference
at_row : (manifest : Contents) (owner : PackageLocator) (name : List ℕ) (found : Option Package)
    → HasNamesOnce manifest → package_at manifest.package_registry_data owner ≡ found
    → flat_option (λ says. of_name owner name (edges_of_row (owner, says))) found
    ≡ edges_by owner name (option_and_then (λ p. at name p.package_dependencies) found)
at_row manifest owner name None once is = refl
at_row manifest owner name (Some says) once is =
    own_row owner name says.package_dependencies (once.names owner says is)

-- and under its name
at_references : (manifest : Contents) (owner : PackageLocator) (name : List ℕ)
    → (found : Option (List (List ℕ × Package)))
    → HasNamesOnce manifest → at owner.name manifest.package_registry_data ≡ found
    → flat_option (λ references. of_name owner name (edges_under (owner.name, references))) found
    ≡ edges_by owner name
    (option_and_then (λ p. at name p.package_dependencies) (option_and_then (at owner.reference) found))
at_references manifest owner name None once is = refl
at_references manifest owner name (Some references) once is =
    ap (of_name owner name) (flat_map-map edges_of_row (λ row. (locator owner.name row.0, row.1)) references)
    ∙ filter-flat_map (asks_for owner name) (λ row. edges_of_row (locator owner.name row.0, row.1)) references
    ∙ given_at (λ row. of_name owner name (edges_of_row (locator owner.name row.0, row.1)))
    owner.reference references others (once.references owner.name references is)
    ∙ at_row manifest owner name (at owner.reference references) once (rw is refl)
  where
    others : (key : List ℕ) (says : Package) → bytes_eq owner.reference key ≡ false
        → of_name owner name (edges_of_row (locator owner.name key, says)) ≡ []
    others key says other =
        other_row owner (locator owner.name key) name says.package_dependencies
        (rw other (and-false (bytes_eq owner.name owner.name)))

pub edges_are_bindings : EdgesAreBindings
edges_are_bindings = record {
  tells = λ manifest owner name once.
      ap (of_name owner name) (flat_map-flat_map edges_of_row rows_under manifest.package_registry_data)
      ∙ filter-flat_map (asks_for owner name) edges_under manifest.package_registry_data
      ∙ given_at (λ named. of_name owner name (edges_under named)) owner.name manifest.package_registry_data
      (other_rows owner name) once.packages
      ∙ at_references manifest owner name (at owner.name manifest.package_registry_data) once refl;
}

-- a finding is of its edge's package and name
finding_asks : (owner : PackageLocator) (name : List ℕ) (e : RowEdge) (fault : Option EdgeFault) (f : Finding)
    → option_map (finding e) fault ≡ Some f → is_found_for owner name f ≡ asks_for owner name e
finding_asks owner name e None f h = cc
finding_asks owner name e (Some fault) f h =
    let is : finding e fault ≡ f = cc in
    ap (is_found_for owner name) (sym is)

-- what is found at a binding, if there is one
abbrev found_by : Files → Lock → Contents → PackageLocator → List ℕ → Option PackageDependency → List Finding
found_by t lock manifest owner name bound =
    option_to_list (option_and_then (λ dependency. finding_on t lock manifest (edge owner name dependency)) bound)

found_at_own : (t : Files) (lock : Lock) (manifest : Contents) (owner : PackageLocator) (name : List ℕ)
    → (bound : Option PackageDependency)
    → filter_map (finding_on t lock manifest) (option_to_list (option_map (edge owner name) bound))
    ≡ found_by t lock manifest owner name bound
found_at_own t lock manifest owner name None = refl
found_at_own t lock manifest owner name (Some dependency) =
    cons_option-nil (finding_on t lock manifest (edge owner name dependency))

pub found_once : (t : Files) (lock : Lock) (manifest : Contents) (owner : PackageLocator) (name : List ℕ)
    → HasNamesOnce manifest
    → found_for t lock manifest owner name ≡ found_by t lock manifest owner name (given (own manifest owner name))
found_once t lock manifest owner name once =
    filter_map-filter (is_found_for owner name) (asks_for owner name) (finding_on t lock manifest) (edges manifest)
    (λ e f h. finding_asks owner name e (fault_on t lock manifest e).result f h)
    ∙ ap (filter_map (finding_on t lock manifest)) (edges_are_bindings.tells manifest owner name once)
    ∙ found_at_own t lock manifest owner name (given (own manifest owner name))
