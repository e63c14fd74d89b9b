-- The manifest that bytes are: the JSON of their payload, field by field.
-- A `do` here is over readings: it goes on with what a reading gives, and gives nothing where one of them doesn't read.
use Rattle.std.specs.Prelude.{
  ℕ,
  false,
  if◌then◌else◌,
  List,
  [],
  Option,
  Some,
  None,
  Result,
  Ok,
  Err,
  ◌≡◌,
  map,
  filter,
  codes,
  bytes_eq,
  is_none,
  option_map,
  unwrap_or,
}
use Rattle.std.specs.Option.{option_or}
use Rattle.std.specs.Str.{is_utf8, chars}
use Rattle.serde_json.specs.Data.{Data}
use Rattle.serde_json.specs.Find.{as_str, as_bool}
use Rattle.serde_json.specs.Read.{read}
use Rattle.serde_json.specs.Written.{has_float}
use Rattle.json_reading.specs.Reading.{◌>>=◌, list_by, pair_by, nullable_by, field_by, field_or}
use Rattle.json_reading.specs.declared.error.FromJsonError.{FromJsonError}
use Rattle.json_reading.specs.declared.error.FromJsonError.TheVariants.{OtherKind, NoMemory}
use Rattle.indexmap.specs.IndexMap.{insert_all}
use Rattle.indexmap.specs.IndexSet as set
use Rattle.sugar_path.specs.Path.{Path, parent, text_of, join}
use Rattle.pnp_core.specs.declared.error.HydrationCause.{HydrationCause}
use Rattle.pnp_core.specs.declared.error.HydrationCause.TheVariants.{
  NotText,
  NoPayload,
  BadJson,
  BadPattern,
  NoTopLevel,
}
use Rattle.pnp_core.specs.declared.error.ReadManifestError.{ReadManifestError}
use Rattle.pnp_core.specs.declared.error.ReadManifestError.TheVariants as refusal
use Rattle.pnp_core.specs.declared.manifest.PackageLocator.{PackageLocator}
use Rattle.pnp_core.specs.declared.manifest.PackageDependency.{PackageDependency}
use Rattle.pnp_core.specs.declared.manifest.PackageDependency.TheVariants.{Reference, Alias}
use Rattle.es_pattern.specs.Tree.{Tree}
use Rattle.es_pattern.specs.Accepted.{pattern_of}
use Rattle.es_pattern.specs.declared.error.PatternError.{PatternError}
use Rattle.es_pattern.specs.declared.error.PatternError.TheVariants as pattern_error
use Rattle.pnp_core.specs.NormalizePath.{normalize_path}
use Rattle.pnp_core.specs.Payload.{payload}
use Rattle.pnp_core.specs.Manifest.{
  Dependencies,
  Package,
  Registry,
  Contents,
  locator,
  locator_eq,
  top_level,
  at,
  package_at,
  has_row,
}

-- a repeated name keeps its place and takes the last value
abbrev pub entries_of : {A : Type 0} → List (List ℕ × A) → List (List ℕ × A)
entries_of pairs = insert_all bytes_eq [] pairs

-- a null name or reference is the empty text
abbrev pub named : {A : Type 0} → Option (List ℕ) × A → List ℕ × A
named pair = (unwrap_or pair.0 [], pair.1)

-- a text is a reference of the package of the bound name, and two texts are a name and a reference
abbrev pub dependency_in : Data → Option PackageDependency
dependency_in d =
    option_or (option_map Reference (as_str d))
    (option_map (λ pair. Alias pair.0 pair.1) (pair_by as_str as_str d))

abbrev pub dependencies_in : Data → Option Dependencies
dependencies_in d = option_map entries_of (list_by (pair_by as_str (nullable_by dependency_in)) d)

unfoldable pub locator_in : Data → Option PackageLocator
locator_in d = do
  name ← field_by (codes "name") as_str d
  reference ← field_by (codes "reference") as_str d
  Some (locator name reference)

unfoldable pub package_in : Data → Option Package
package_in d = do
  location ← field_by (codes "packageLocation") as_str d
  discard ← field_or (codes "discardFromLookup") false as_bool d
  dependencies ← field_by (codes "packageDependencies") dependencies_in d
  Some (record {
    package_location = location;
    discard_from_lookup = discard;
    package_dependencies = dependencies;
  })

abbrev pub references_in : Data → Option (List (List ℕ × Package))
references_in d =
    option_map (λ pairs. entries_of (map named pairs))
    (list_by (pair_by (nullable_by as_str) package_in) d)

abbrev pub registry_in : Data → Option Registry
registry_in d =
    option_map (λ pairs. entries_of (map named pairs))
    (list_by (pair_by (nullable_by as_str) references_in) d)

-- a repeated locator or reference counts once
abbrev pub roots_in : Data → Option (List PackageLocator)
roots_in d = option_map (set.insert_all locator_eq []) (list_by locator_in d)

abbrev pub texts_in : Data → Option (List (List ℕ))
texts_in d = option_map (set.insert_all bytes_eq []) (list_by as_str d)

abbrev pub exclusions_in : Data → Option (List (List ℕ × List (List ℕ)))
exclusions_in d = option_map entries_of (list_by (pair_by as_str texts_in) d)

-- the fields of a manifest but its registry, and the text of its ignore pattern; others are passed over. It has no
-- folder, no path and no pattern yet
unfoldable pub fields_but_registry : Data → Option (Contents × Option (List ℕ))
fields_but_registry d = do
  fallback ← field_by (codes "enableTopLevelFallback") as_bool d
  pattern ← field_or (codes "ignorePatternData") None (nullable_by as_str) d
  roots ← field_by (codes "dependencyTreeRoots") roots_in d
  pool ← field_by (codes "fallbackPool") dependencies_in d
  exclusions ← field_by (codes "fallbackExclusionList") exclusions_in d
  Some (
    record {
      manifest_dir = [];
      manifest_path = [];
      enable_top_level_fallback = fallback;
      ignore_pattern_data = None;
      dependency_tree_roots = roots;
      fallback_pool = pool;
      fallback_exclusion_list = exclusions;
      package_registry_data = [];
    },
    pattern,
  )

abbrev pub with_registry : Contents → Registry → Contents
with_registry m registry = record m { package_registry_data = registry }

-- the fields of a manifest, and the text of its ignore pattern
unfoldable pub fields_in : Data → Option (Contents × Option (List ℕ))
fields_in d = do
  read ← fields_but_registry d
  registry ← field_by (codes "packageRegistryData") registry_in d
  Some (with_registry read.0 registry, read.1)

-- a manifest gets its ignore pattern, where its text is one
abbrev pub with_pattern : Contents → Option Tree → Result Contents HydrationCause
with_pattern m None = Err BadPattern
with_pattern m (Some pattern) = Ok (record m { ignore_pattern_data = Some pattern })

abbrev pub with_pattern_text : Contents → Option (List ℕ) → Result Contents HydrationCause
with_pattern_text m None = Ok m
with_pattern_text m (Some text) = with_pattern m (pattern_of (chars text))

abbrev pub from_fields : Option (Contents × Option (List ℕ)) → Result Contents HydrationCause
from_fields None = Err BadJson
from_fields (Some read) = with_pattern_text read.0 read.1

-- the manifest that a value says, or why it is none. A value with a float is none
abbrev pub manifest_in : Data → Result Contents HydrationCause
manifest_in d = if has_float d then Err BadJson else from_fields (fields_in d)

-- the manifest that the value of a text says, where the text is JSON
abbrev pub from_data : Option Data → Result Contents HydrationCause
from_data None = Err BadJson
from_data (Some d) = manifest_in d

-- what a call tells that reads a manifest, by what a reader of its fields tells, and one of its pattern
abbrev pub of_reading : FromJsonError → ReadManifestError
of_reading OtherKind = refusal.BadJson
of_reading NoMemory = refusal.NoMemory

abbrev pub of_pattern : PatternError → ReadManifestError
of_pattern (pattern_error.Syntax place) = refusal.BadPattern
of_pattern (pattern_error.Unsupported place) = refusal.BadPattern
of_pattern (pattern_error.CountTooLarge place) = refusal.BadPattern
of_pattern pattern_error.NoMemory = refusal.NoMemory

-- such a call answers this manifest, or this cause, unless memory is wanting
abbrev pub IsReadAs : {A : Type 0} → Result A ReadManifestError → Result A HydrationCause → Type 0
IsReadAs (Ok m) r = r ≡ Ok m
IsReadAs (Err refusal.BadJson) r = r ≡ Err BadJson
IsReadAs (Err refusal.BadPattern) r = r ≡ Err BadPattern
IsReadAs (Err refusal.NoMemory) r = Unit {0}

-- a location is read from the manifest's folder
abbrev pub located : List ℕ → Package → Package
located dir p = record p { package_location = normalize_path (join dir p.package_location) }

abbrev pub located_rows : List ℕ → List (List ℕ × Package) → List (List ℕ × Package)
located_rows dir references = map (λ row. (row.0, located dir row.1)) references

abbrev pub located_registry : List ℕ → Registry → Registry
located_registry dir registry = map (λ named. (named.0, located_rows dir named.1)) registry

-- the pool, and behind it the top-level row's bindings of names that the pool lacks, nulls too
abbrev pub filled : Dependencies → Dependencies → Dependencies
filled pool own = insert_all bytes_eq pool (filter (λ bound. is_none (at bound.0 pool)) own)

abbrev pub filled_by : Dependencies → Option Package → Dependencies
filled_by pool None = pool
filled_by pool (Some p) = filled pool p.package_dependencies

-- a manifest that was read, at the path of its file
abbrev pub initialized : Path → Contents → Contents
initialized p m = record m {
  manifest_dir = text_of (parent p);
  manifest_path = text_of p;
  fallback_pool = filled_by m.fallback_pool (package_at m.package_registry_data top_level);
  package_registry_data = located_registry (text_of (parent p)) m.package_registry_data;
}

abbrev pub with_top_level : Path → Contents → Result Contents HydrationCause
with_top_level p m = if has_row m top_level then Ok (initialized p m) else Err NoTopLevel

abbrev pub placed_at : Path → Result Contents HydrationCause → Result Contents HydrationCause
placed_at p (Ok m) = with_top_level p m
placed_at p (Err cause) = Err cause

abbrev pub from_payload : Path → Option (List ℕ) → Result Contents HydrationCause
from_payload p None = Err NoPayload
from_payload p (Some text) = placed_at p (from_data (read text))

-- the manifest of a text
abbrev pub from_text : Path → List ℕ → Result Contents HydrationCause
from_text p text = from_payload p (payload text)

-- the manifest that the bytes of a file are, or the first cause why they are none
abbrev pub reading : Option (List ℕ) → Path → Result Contents HydrationCause
reading None p = Err NotText
reading (Some bytes) p = if is_utf8 bytes then from_text p bytes else Err NotText
