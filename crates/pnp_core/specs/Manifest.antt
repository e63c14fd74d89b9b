-- What a manifest says, as lists in the order of its payload.
use Rattle.std.specs.Prelude.{ℕ, Bool, ◌&&◌, List, [], Option, Some, map, flat_map, bytes_eq, option_and_then, is_some}
use Rattle.std.specs.Map.{lookup}
use Rattle.es_pattern.specs.Tree.{Tree}
use Rattle.pnp_core.specs.declared.manifest.PackageLocator.{PackageLocator}
use Rattle.pnp_core.specs.declared.manifest.PackageDependency.{PackageDependency}

-- from names to what they are bound to; None is the payload's null
abbrev pub Dependencies : Type 0
Dependencies = List (List ℕ × Option PackageDependency)

-- what a row says of its package
pub record Package : Type 0 where
  pub package_location : List ℕ
  pub discard_from_lookup : Bool
  pub package_dependencies : Dependencies

-- from names to references to rows
abbrev pub Registry : Type 0
Registry = List (List ℕ × List (List ℕ × Package))

-- what a manifest says
pub record Contents : Type 0 where
  pub manifest_dir : List ℕ
  pub manifest_path : List ℕ
  pub enable_top_level_fallback : Bool
  pub ignore_pattern_data : Option Tree
  pub dependency_tree_roots : List PackageLocator
  pub fallback_pool : Dependencies
  pub fallback_exclusion_list : List (List ℕ × List (List ℕ))
  pub package_registry_data : Registry

-- the value at a name
abbrev pub at : {A : Type 0} → List ℕ → List (List ℕ × A) → Option A
at name entries = lookup (bytes_eq name) entries

abbrev pub locator : List ℕ → List ℕ → PackageLocator
locator n r = record { name = n; reference = r }

-- the top-level package has neither name nor reference
abbrev pub top_level : PackageLocator
top_level = locator [] []

-- the package of a locator's row, where the registry has one
abbrev pub package_at : Registry → PackageLocator → Option Package
package_at registry l = option_and_then (at l.reference) (at l.name registry)

abbrev pub has_row : Contents → PackageLocator → Bool
has_row m l = is_some (package_at m.package_registry_data l)

-- the location that a locator's row names
abbrev pub location_of : Contents → PackageLocator → Option (List ℕ)
location_of m l =
    option_and_then (λ p. Some p.package_location) (package_at m.package_registry_data l)

-- a row: its locator, and what it says
abbrev pub Row : Type 0
Row = PackageLocator × Package

abbrev pub rows_under : List ℕ × List (List ℕ × Package) → List Row
rows_under named = map (λ row. (locator named.0 row.0, row.1)) named.1

-- the rows, in the registry's order
abbrev pub rows : Registry → List Row
rows registry = flat_map rows_under registry

-- two locators are one
abbrev pub locator_eq : PackageLocator → PackageLocator → Bool
locator_eq a b = bytes_eq a.name b.name && bytes_eq a.reference b.reference
