-- The mapping of a document, read from its JSON value (RFC 8259).
-- A `do` here is over readings: it goes on with what a reading gives, and gives nothing where one of them doesn't read.
use Rattle.std.specs.Prelude.{ℕ, ◌==◌, codes, Option, Some, None, option_and_then, if◌then◌else◌}
use Rattle.serde_json.specs.Data.{Data}
use Rattle.serde_json.specs.Find.{get, as_str, as_number, as_u64}
use Rattle.json_reading.specs.Reading.{◌>>=◌, field_by, field_or, list_by, pair_by, present_or}
use Rattle.resolve_stack.specs.declared.project.TsSettings.{TsSettings}
use Rattle.swc_loader.specs.declared.ts_version.TsVersion.{TsVersion}
use Rattle.swc_loader.specs.declared.ts_version.TsVersion.TheVariants.{V1, V2}

-- the version of that number: there are 1 and 2
abbrev pub version_numbered : ℕ → Option TsVersion
version_numbered n = if n == 1 then Some V1 else if n == 2 then Some V2 else None

-- a version: a whole number, written without a point and an exponent
abbrev pub version_of : Data → Option TsVersion
version_of d = option_and_then version_numbered (option_and_then as_u64 (as_number d))

-- a mapping: its base folder, its patterns, each with its targets, and its version, by default 1
unfoldable pub mapping_of : Data → Option TsSettings
mapping_of d = do
  base_url ← field_by (codes "base_url") as_str d
  paths ← field_by (codes "paths") (list_by (pair_by as_str (list_by as_str))) d
  version ← field_or (codes "version") V1 version_of d
  Some (record { base_url = base_url; paths = paths; version = version })

-- what a document says of the version of its mapping, where it says something
abbrev pub given_version : Data → Option Data
given_version d = option_and_then (get (codes "version")) (get (codes "ts") d)

-- the version of a document's mapping, by default 1
abbrev pub version_in : Data → Option TsVersion
version_in d = present_or V1 version_of (given_version d)
