-- A content that is UTF-8 is its own text.
use Rattle.std.proofs.Common.{◌≡◌, ◌==◌, ℕ, false, List, length, Result, IsUtf8, sym, ap, ◌∙◌}
use Rattle.std.specs.Str.{trim}
use Rattle.std.specs.Str.Lossy.{utf8_lossy}
use Rattle.std.proofs.lemmas.Str.{utf8_lossy-IsUtf8}
use Rattle.json_reading.specs.Bytes.{json_of}
use Rattle.json_reading.proofs.JsonBytes.{json_of-text}
use Rattle.deno_package_json.specs.declared.error.PackageJsonLoadError.{PackageJsonLoadError}
use Rattle.deno_package_json.specs.declared.package_json.PackageJson.{PackageJson}
use Rattle.deno_package_json.specs.Loading.{Loads, from_json, from_text}
use Rattle.deno_package_json.specs.Package.{Package}

pub loaded_as_text : (path content text : List ℕ) → text ≡ content → IsUtf8 content
    → from_text path (utf8_lossy content) ≡ from_text path text
loaded_as_text path content text same utf8 = ap (from_text path) (utf8_lossy-IsUtf8 content utf8 ∙ sym same)

-- a text that isn't white space alone is loaded as the value that its bytes are
pub loaded_as_value : (path content text : List ℕ) → text ≡ content → IsUtf8 content → (length (trim text) == 0) ≡ false
    → from_text path (utf8_lossy content) ≡ from_json path (json_of content)
loaded_as_value path content text same utf8 black =
    loaded_as_text path content text same utf8
    ∙ rw black (ap (from_json path) (sym (json_of-text content text same utf8)))

pub loads_as : {a b : Result Package PackageJsonLoadError} (result : Result PackageJson PackageJsonLoadError) → a ≡ b
    → Loads result a → Loads result b
loads_as result is loads = rw is at loads
