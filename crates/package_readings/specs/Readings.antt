-- What the content of a package.json is read to.
use Rattle.std.specs.Prelude.{◌≡◌, ℕ, List, Option, Some, None, Ok, Err}
use Rattle.std.specs.Str.Lossy.{utf8_lossy}
use Rattle.deno_package_json.specs.declared.error.PackageJsonLoadError.{PackageJsonLoadError}
use Rattle.deno_package_json.specs.Loading.{from_text}
use Rattle.deno_package_json.specs.Package.{Package, package_of}
use Rattle.deno_package_json.specs.Requirements.{requirements_of}
use Rattle.package_readings.specs.declared.readings.ReadPackage.{ReadPackage}

-- a package, said to lie at a path
abbrev pub at_path : List ℕ → Package → Package
at_path path says = record says { path = path }

-- A package, with what it requires, is what the text of a content is loaded to, wherever the file lies.
pub record IsLoadedTo (content : List ℕ) (read : ReadPackage) : Type 0 where
  pub loads : (path : List ℕ) → from_text path (utf8_lossy content) ≡ Ok (at_path path (package_of read.package_json))
  pub requires : read.requirements.entries ≡ requirements_of (package_of read.package_json)

-- the text of a content is loaded to nothing, wherever the file lies
abbrev pub IsRefused : List ℕ → Type 0
IsRefused content = (path : List ℕ) → (fault : PackageJsonLoadError) × (from_text path (utf8_lossy content) ≡ Err fault)

-- What a content is read to: the package of its text, with U+FFFD for what is no UTF-8, or none where there is none.
abbrev pub IsReadTo : List ℕ → Option ReadPackage → Type 0
IsReadTo content None = IsRefused content
IsReadTo content (Some read) = IsLoadedTo content read
