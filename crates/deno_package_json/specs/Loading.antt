-- The package of a JSON value and of a text, or the first fault.
use Rattle.std.specs.Prelude.{◌≡◌, ◌==◌, ℕ, List, length, Option, Some, None, Result, Ok, Err, codes, if◌then◌else◌}
use Rattle.std.specs.Str.{trim}
use Rattle.serde_json.specs.Data.{Data}
use Rattle.serde_json.specs.Find.{get}
use Rattle.serde_json.specs.Read.{read}
use Rattle.serde_json.specs.Written.{has_float}
use Rattle.deno_package_json.specs.declared.error.PackageJsonLoadError.{PackageJsonLoadError}
use Rattle.deno_package_json.specs.declared.error.PackageJsonLoadError.TheVariants.{
  Deserialize,
  HoldsFloat,
  MixedExports,
  NoMemory,
}
use Rattle.deno_package_json.specs.declared.package_json.PackageJson.{PackageJson}
use Rattle.deno_package_json.specs.Exports.{exports_in, has_mixed_exports}
use Rattle.deno_package_json.specs.Fields.{imports_in, table_under, text_under, texts_under, typ_in, types_in}
use Rattle.deno_package_json.specs.Package.{Package, empty_package, package_of}

-- the fields of a value; others are passed over
abbrev pub package_in : List ℕ → Data → Package
package_in path d = record {
  path = path;
  exports = exports_in d;
  imports = imports_in d;
  bin = get (codes "bin") d;
  main = text_under (codes "main") d;
  «module» = text_under (codes "module") d;
  name = text_under (codes "name") d;
  version = text_under (codes "version") d;
  typ = typ_in d;
  types = types_in d;
  dependencies = table_under (codes "dependencies") d;
  dev_dependencies = table_under (codes "devDependencies") d;
  scripts = table_under (codes "scripts") d;
  workspaces = texts_under (codes "workspaces") d;
}

-- the package of a value: one that holds a float, or mixes the keys of its exports, is refused
abbrev pub from_value : List ℕ → Data → Result Package PackageJsonLoadError
from_value path d = if has_float d then Err (HoldsFloat path) else
    (if has_mixed_exports d then Err (MixedExports path) else Ok (package_in path d))

-- the package of what a text is as JSON
abbrev pub from_json : List ℕ → Option Data → Result Package PackageJsonLoadError
from_json path None = Err (Deserialize path)
from_json path (Some d) = from_value path d

-- the package of a text: white space says nothing, any other text is JSON of at most 127 levels
abbrev pub from_text : List ℕ → List ℕ → Result Package PackageJsonLoadError
from_text path text = if length (trim text) == 0 then Ok (empty_package path) else from_json path (read text)

-- a refusal is the first fault, or want of memory
abbrev pub RefusedFor : PackageJsonLoadError → Result Package PackageJsonLoadError → Type 0
RefusedFor NoMemory wanted = Unit {0}
RefusedFor e wanted = wanted ≡ Err e

-- a load answers the package that is wanted, or is refused
abbrev pub Loads : Result PackageJson PackageJsonLoadError → Result Package PackageJsonLoadError → Type 0
Loads (Ok p) wanted = wanted ≡ Ok (package_of p)
Loads (Err e) wanted = RefusedFor e wanted
