-- What a manifest's rows become, one text after the other, and what is put into its pool and its trie.
use Rattle.std.specs.Prelude.{ℕ, List, [], ◌∷◌, map, filter, is_none, Option, Some, None}
use Rattle.sugar_path.specs.Path.{Path, join}
use Rattle.pnp_core.specs.declared.manifest.PackageLocator.{PackageLocator}
use Rattle.pnp_core.specs.NormalizePath.{normalize_path}
use Rattle.std.specs.Option.{option_or}
use Rattle.pnp_core.specs.Manifest.{Contents, Dependencies, Package, Registry, Row, at, top_level, package_at}
use Rattle.pnp_core.specs.Owner.{last_at}
use Rattle.pnp_core.specs.Trie.{Locations, value_at}

-- the values of a map's first entries, each changed by one of a list
abbrev pub changed : {K X W : Type 0} → (X → W → X) → List (K × X) → List W → List (K × X)
changed f es [] = es
changed f [] (w ∷ ws) = []
changed f (e ∷ es) (w ∷ ws) = (e.0, f e.1 w) ∷ changed f es ws

abbrev pub placed : Package → List ℕ → Package
placed p location = record p { package_location = location }

-- the location that each row has, read from a folder
abbrev pub locations_of : List ℕ → List (List ℕ × Package) → List (List ℕ)
locations_of dir references =
    map (λ row. normalize_path (join dir row.1.package_location)) references

abbrev pub all_locations : List ℕ → Registry → List (List (List ℕ))
all_locations dir registry = map (λ named. locations_of dir named.1) registry

-- rows put over values: the last row that owns a location, else the value that was there
abbrev pub overlaid : List Row → Locations PackageLocator → Path → Option PackageLocator
overlaid rs t l = option_or (last_at rs l) (value_at t l)

-- the bindings of a package that a pool lacks
abbrev pub missing_from : Dependencies → Option Package → Dependencies
missing_from pool None = []
missing_from pool (Some p) = filter (λ bound. is_none (at bound.0 pool)) p.package_dependencies

abbrev pub missing_of : Contents → Dependencies
missing_of m = missing_from m.fallback_pool (package_at m.package_registry_data top_level)
