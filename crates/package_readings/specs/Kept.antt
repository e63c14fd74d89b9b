-- What contents were read to, kept by their bytes. No promise of a public call reads it.
use Rattle.std.specs.Prelude.{◌≡◌, ℕ, List, Option, Some, None, Result, Ok, Err, map, bytes_eq, slice_get}
use Rattle.std.specs.Map.{lookup}
use Rattle.deno_package_json.specs.declared.error.PackageJsonLoadError.{PackageJsonLoadError}
use Rattle.deno_package_json.specs.declared.error.PackageJsonLoadError.TheVariants.{NoMemory}
use Rattle.deno_package_json.specs.declared.package_json.PackageJson.{PackageJson}
use Rattle.package_readings.specs.declared.readings.ReadPackage.{ReadPackage}
use Rattle.package_readings.specs.Readings.{IsReadTo}

-- what is kept for a content is what it is read to
abbrev pub ArePackages : List (List ℕ × Option ReadPackage) → Type 0
ArePackages kept =
    (content : List ℕ) (found : Option ReadPackage) → lookup (bytes_eq content) kept ≡ Some found
    → IsReadTo content found

-- at a place stands what a content is read to
abbrev pub IsPackageAt : List (List ℕ × Option ReadPackage) → ℕ → List ℕ → Type 0
IsPackageAt kept place content =
    (found : Option ReadPackage) × (slice_get (map (λ e. e.1) kept) place ≡ Some found) × IsReadTo content found

-- what is taken from a load: its package, or none where the text was refused; where memory was wanting, nothing is
-- taken
abbrev pub IsTakenFrom : Result PackageJson PackageJsonLoadError → Option PackageJson → Type 0
IsTakenFrom (Ok says) found = found ≡ Some says
IsTakenFrom (Err NoMemory) found = ⊥
IsTakenFrom (Err fault) found = found ≡ None
