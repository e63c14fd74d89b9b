-- What an audit says of requests to the join.
use Rattle.std.specs.Prelude.{◌≡◌, ℕ, Bool, ◌&&◌, List, [], bytes_eq, filter, Contains}
use Rattle.std.specs.Prelude.{Some, option_and_then, option_map, Ok, Err}
use Rattle.std.specs.Option.{option_to_list}
use Rattle.tree_core.specs.Tree.{Files}
use Rattle.lock_checks.specs.declared.fault.EdgeFault.{EdgeFault}
use Rattle.pnp_core.specs.declared.manifest.Binding.TheVariants.{Bound}
use Rattle.pnp_core.specs.declared.manifest.PackageDependency.{PackageDependency}
use Rattle.pnp_core.specs.declared.manifest.PackageLocator.{PackageLocator}
use Rattle.pnp_core.specs.Binding.{bind, bound_to, given, own}
use Rattle.pnp_core.specs.Manifest.{Contents, locator_eq}
use Rattle.pnp_core.specs.NamesOnce.{HasNamesOnce}
use Rattle.resolve_stack.specs.OnTree.{checked_on}
use Rattle.resolve_stack.specs.Rows.{of_fault}
use Rattle.resolve_stack.specs.Settings.{ProjectSettings}
use Rattle.yarn_lock_parser.specs.Lock.{Lock}
use Rattle.lock_audit.specs.declared.audited.Finding.{Finding}
use Rattle.lock_audit.specs.declared.edges.RowEdge.{RowEdge}
use Rattle.lock_audit.specs.Edges.{edge, edges}
use Rattle.lock_audit.specs.OnTree.{finding_on, findings_on}

-- an edge is that of a package and a name
abbrev pub asks_for : PackageLocator → List ℕ → RowEdge → Bool
asks_for owner name e = locator_eq owner e.owner && bytes_eq name e.name

-- the edges of a package and a name
abbrev pub edges_for : Contents → PackageLocator → List ℕ → List RowEdge
edges_for manifest owner name = filter (asks_for owner name) (edges manifest)

-- The edges are what the rows bind, each once: of a package and a name there is the one that the package's own row has
-- for that name, and none where it has nothing or null.
pub record EdgesAreBindings : Type 0 where
  pub tells : (manifest : Contents) (owner : PackageLocator) (name : List ℕ) → HasNamesOnce manifest
      → edges_for manifest owner name
      ≡ option_to_list (option_map (edge owner name) (given (own manifest owner name)))

-- an owner's own row binds a name to a package
pub record BindsOwn (manifest : Contents) (owner : PackageLocator) (name : List ℕ) (bound : PackageLocator) : Type 0
  where
    pub dependency : PackageDependency
    pub own : own manifest owner name ≡ Some (Some dependency)
    pub means : bound ≡ bound_to name dependency

-- the registry row or the lock row of the order, asked for an owner and a name that is bound to a package, refuses with
-- a fault
abbrev pub Refuses : Files → ProjectSettings → Contents → PackageLocator → List ℕ → PackageLocator → EdgeFault → Type 0
Refuses t project manifest owner name bound fault =
    (checked_on t project manifest owner name bound).result ≡ Err (of_fault bound fault)

-- what is found in a manifest on a tree
abbrev pub found_in : Files → Lock → Contents → List Finding
found_in t lock manifest = (findings_on t lock manifest (edges manifest)).result

-- a finding is of a package and a name
abbrev pub is_found_for : PackageLocator → List ℕ → Finding → Bool
is_found_for owner name f = locator_eq owner f.owner && bytes_eq name f.name

-- what is found of a package and a name
abbrev pub found_for : Files → Lock → Contents → PackageLocator → List ℕ → List Finding
found_for t lock manifest owner name = filter (is_found_for owner name) (found_in t lock manifest)

-- What is found is what these two rows of the order refuse.
pub record FindingsAreRefusals : Type 0 where
  -- each finding is refused by them, with its fault
  pub refused : (t : Files) (project : ProjectSettings) (lock : Lock) (manifest : Contents) (f : Finding)
      → project.lock ≡ Some lock → Contains (found_in t lock manifest) f
      → Refuses t project manifest f.owner f.name f.bound f.fault
  -- and what they refuse of an owner's own bindings is found
  pub found : (t : Files) (project : ProjectSettings) (lock : Lock) (manifest : Contents) (f : Finding)
      → project.lock ≡ Some lock → BindsOwn manifest f.owner f.name f.bound
      → Refuses t project manifest f.owner f.name f.bound f.fault
      → Contains (found_in t lock manifest) f
  -- once: of a package and a name there is what is found at the binding by the package's own row, and nothing else
  pub once : (t : Files) (lock : Lock) (manifest : Contents) (owner : PackageLocator) (name : List ℕ)
      → HasNamesOnce manifest
      → found_for t lock manifest owner name ≡ option_to_list (option_and_then
      (λ dependency. finding_on t lock manifest (edge owner name dependency)) (given (own manifest owner name)))

-- A name that an owner's own row binds, in a manifest in which nothing is found: the order takes that binding, and
-- these two rows go on with the location of the bound package.
pub record Passes (t : Files) (project : ProjectSettings) (manifest : Contents) (owner : PackageLocator) (name : List ℕ)
    (bound : PackageLocator) : Type 0 where
  pub binds : bind manifest owner name ≡ Bound bound
  pub location : List ℕ
  pub passes : (checked_on t project manifest owner name bound).result ≡ Ok location

abbrev pub PassesWithoutFindings : Type 0
PassesWithoutFindings =
    (t : Files) (project : ProjectSettings) (lock : Lock) (manifest : Contents) (owner : PackageLocator) (name : List ℕ)
    (bound : PackageLocator)
    → project.lock ≡ Some lock → found_in t lock manifest ≡ []
    → BindsOwn manifest owner name bound
    → Passes t project manifest owner name bound
