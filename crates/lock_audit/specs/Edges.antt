-- What the rows of a manifest bind.
use Rattle.std.specs.Prelude.{ℕ, List, Option, flat_map, option_map}
use Rattle.std.specs.List.{filter_map}
use Rattle.lock_checks.specs.declared.fault.EdgeFault.{EdgeFault}
use Rattle.pnp_core.specs.declared.manifest.PackageDependency.{PackageDependency}
use Rattle.pnp_core.specs.declared.manifest.PackageLocator.{PackageLocator}
use Rattle.pnp_core.specs.Binding.{bound_to}
use Rattle.pnp_core.specs.Manifest.{Contents, Row, rows}
use Rattle.lock_audit.specs.declared.audited.Finding.{Finding}
use Rattle.lock_audit.specs.declared.edges.RowEdge.{RowEdge}

-- an owner's name, bound to what a dependency means
abbrev pub edge : PackageLocator → List ℕ → PackageDependency → RowEdge
edge owner name dependency = record { owner = owner; name = name; bound = bound_to name dependency }

-- the edge of one of a row's bindings; a null is none
abbrev pub edge_of : PackageLocator → List ℕ × Option PackageDependency → Option RowEdge
edge_of owner binding = option_map (edge owner binding.0) binding.1

-- the edges of a row, in the order of its bindings
abbrev pub edges_of_row : Row → List RowEdge
edges_of_row row = filter_map (edge_of row.0) row.1.package_dependencies

-- the edges of a manifest, row by row in the registry's order. A fallback is none
abbrev pub edges : Contents → List RowEdge
edges manifest = flat_map edges_of_row (rows manifest.package_registry_data)

-- an edge that is refused, and why
abbrev pub finding : RowEdge → EdgeFault → Finding
finding e fault = record { owner = e.owner; name = e.name; bound = e.bound; fault = fault }
