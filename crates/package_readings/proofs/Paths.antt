-- Where the file of a package.json lies changes nothing else of what it says.
use Rattle.std.proofs.Common.{
  ◌≡◌,
  ◌==◌,
  ℕ,
  Bool,
  true,
  false,
  cond,
  List,
  length,
  Option,
  Some,
  None,
  Result,
  Ok,
  Err,
  refl,
  sym,
  ap,
  slice_get,
  ◌∙◌,
}
use Rattle.std.specs.Prelude.{option_and_then, unwrap_or}
use Rattle.std.specs.Str.{trim}
use Rattle.std.specs.Str.Lossy.{utf8_lossy}
use Rattle.serde_json.specs.Data.{Data}
use Rattle.serde_json.specs.Read.{read}
use Rattle.serde_json.specs.Written.{has_float}
use Rattle.deno_package_json.specs.declared.error.PackageJsonLoadError.{PackageJsonLoadError}
use Rattle.deno_package_json.specs.declared.error.PackageJsonLoadError.TheVariants.{
  Deserialize,
  HoldsFloat,
  Io,
  MixedExports,
  NoMemory,
}
use Rattle.deno_package_json.specs.declared.package_json.PackageJson.{PackageJson}
use Rattle.deno_package_json.specs.Exports.{has_mixed_exports}
use Rattle.deno_package_json.specs.Loading.{Loads, from_json, from_text, package_in}
use Rattle.deno_package_json.specs.Package.{Package, empty_package, package_of}
use Rattle.deno_package_json.specs.Requirements.{requirements_of}
use Rattle.package_readings.specs.declared.readings.ReadPackage.{ReadPackage}
use Rattle.package_readings.specs.Kept.{IsTakenFrom}
use Rattle.package_readings.specs.Readings.{at_path, IsLoadedTo, IsReadTo, IsRefused}

-- what is loaded at a path, by what is loaded at another one: the same but for the path, or a refusal by each
abbrev IsAlike : List ℕ → Result Package PackageJsonLoadError → Result Package PackageJsonLoadError → Type 0
IsAlike path (Ok says) loaded = loaded ≡ Ok (at_path path says)
IsAlike path (Err fault) loaded = (found : PackageJsonLoadError) × (loaded ≡ Err found)

loaded_alike : (other path text : List ℕ) → IsAlike path (from_text other text) (from_text path text)
loaded_alike other path text = by_text (length (trim text) == 0) (read text)
  where
    by_value : (d : Data) (float mixed : Bool)
        → IsAlike path (cond float (Err (HoldsFloat other)) (cond mixed (Err (MixedExports other))
        (Ok (package_in other d)))) (cond float (Err (HoldsFloat path))
        (cond mixed (Err (MixedExports path)) (Ok (package_in path d))))
    by_value d true mixed = (HoldsFloat path, refl)
    by_value d false true = (MixedExports path, refl)
    by_value d false false = refl

    by_json : (o : Option Data) → IsAlike path (from_json other o) (from_json path o)
    by_json None = (Deserialize path, refl)
    by_json (Some d) = by_value d (has_float d) (has_mixed_exports d)

    by_text : (blank : Bool) (o : Option Data)
        → IsAlike path (cond blank (Ok (empty_package other)) (from_json other o))
        (cond blank (Ok (empty_package path)) (from_json path o))
    by_text true o = refl
    by_text false o = by_json o

-- a package that is loaded at one path is loaded at each
pub loaded_anywhere : (other text : List ℕ) (says : Package) → from_text other text ≡ Ok says → (path : List ℕ)
    → from_text path text ≡ Ok (at_path path says)
loaded_anywhere other text says is path = rw is at (loaded_alike other path text)

-- a content that is refused at one path is refused at each
pub refused_anywhere : (other content : List ℕ) (fault : PackageJsonLoadError)
    → from_text other (utf8_lossy content) ≡ Err fault → IsRefused content
refused_anywhere other content fault is path = rw is at (loaded_alike other path (utf8_lossy content))

-- a package that is taken from the load of a content, with its requirements, is what the content is read to
pub taken_loaded : (other content : List ℕ) (loaded : Result PackageJson PackageJsonLoadError)
    (package_json : PackageJson) (read : ReadPackage)
    → Loads loaded (from_text other (utf8_lossy content)) → IsTakenFrom loaded (Some package_json)
    → read.package_json ≡ package_json → read.requirements.entries ≡ requirements_of (package_of package_json)
    → IsLoadedTo content read
taken_loaded other content (Ok says) package_json read loads taken same required =
    let is : package_json ≡ says = ap (λ o. unwrap_or o says) taken in
    record {
      loads = loaded_anywhere other (utf8_lossy content) (package_of read.package_json)
          (loads ∙ ap (λ p. Ok (package_of p)) (sym (same ∙ is)));
      requires = required ∙ ap (λ p. requirements_of (package_of p)) (sym same);
    }
taken_loaded other content (Err (Io path)) package_json read loads taken same required = cc
taken_loaded other content (Err (Deserialize path)) package_json read loads taken same required = cc
taken_loaded other content (Err (HoldsFloat path)) package_json read loads taken same required = cc
taken_loaded other content (Err (MixedExports path)) package_json read loads taken same required = cc
taken_loaded other content (Err NoMemory) package_json read loads taken same required = elim taken [ ]

-- a content from whose load nothing is taken is refused
pub taken_refused : (other content : List ℕ) (loaded : Result PackageJson PackageJsonLoadError)
    → Loads loaded (from_text other (utf8_lossy content)) → IsTakenFrom loaded None → IsRefused content
taken_refused other content (Ok says) loads taken = cc
taken_refused other content (Err (Io path)) loads taken = refused_anywhere other content (Io path) loads
taken_refused other content (Err (Deserialize path)) loads taken =
    refused_anywhere other content (Deserialize path) loads
taken_refused other content (Err (HoldsFloat path)) loads taken = refused_anywhere other content (HoldsFloat path) loads
taken_refused other content (Err (MixedExports path)) loads taken =
    refused_anywhere other content (MixedExports path) loads
taken_refused other content (Err NoMemory) loads taken = elim taken [ ]

-- what stands at a place where a content's package stands
pub read_there : (content : List ℕ) (values : List (Option ReadPackage)) (place : ℕ) (known found : Option ReadPackage)
    → slice_get values place ≡ Some known → IsReadTo content known
    → found ≡ option_and_then (λ o. o) (slice_get values place) → IsReadTo content found
read_there content values place known found stands read there =
    let same : known ≡ found = sym (there ∙ ap (option_and_then (λ o. o)) stands) in
    rw same at read
