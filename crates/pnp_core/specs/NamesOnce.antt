-- That a manifest's maps hold a key once.
use Rattle.std.specs.Prelude.{◌≡◌, ℕ, List, Option, Some, Ok, bytes_eq}
use Rattle.std.specs.List.{IsDistinct}
use Rattle.std.specs.Map.{keys_of}
use Rattle.sugar_path.specs.Path.{Path}
use Rattle.pnp_core.specs.declared.manifest.PackageLocator.{PackageLocator}
use Rattle.pnp_core.specs.Manifest.{Contents, Package, at, package_at}
use Rattle.pnp_core.specs.ManifestReading.{reading}

-- No name stands twice: of a package in the registry, of a reference under it, of what a row binds.
pub record HasNamesOnce (manifest : Contents) : Type 0 where
  pub packages : IsDistinct bytes_eq (keys_of manifest.package_registry_data)
  pub references : (name : List ℕ) (references : List (List ℕ × Package))
      → at name manifest.package_registry_data ≡ Some references → IsDistinct bytes_eq (keys_of references)
  pub names : (owner : PackageLocator) (row : Package)
      → package_at manifest.package_registry_data owner ≡ Some row
      → IsDistinct bytes_eq (keys_of row.package_dependencies)

-- in each manifest that the bytes of a file are, no name stands twice
abbrev pub NamesStandOnce : Type 0
NamesStandOnce =
    (content : Option (List ℕ)) (p : Path) (manifest : Contents) → reading content p ≡ Ok manifest
    → HasNamesOnce manifest
