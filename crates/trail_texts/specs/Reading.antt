-- What importers and bytes are read from.
use Rattle.std.specs.Prelude.{ℕ, Bool, nat_le, ◌&&◌, ◌||◌, List, codes, Option, Some, None, option_map, if◌then◌else◌}
use Rattle.std.specs.List.{list_all}
use Rattle.std.specs.Result.{result_ok}
use Rattle.hex.specs.Hex.{decode_of}
use Rattle.serde_json.specs.Data.{Data, null, boolean, number, string, array, object}
use Rattle.serde_json.specs.Find.{as_str}
use Rattle.json_reading.specs.Reading.{field_by}
use Rattle.swc_loader.specs.declared.resolution.FileName.{FileName}
use Rattle.swc_loader.specs.declared.resolution.FileName.TheVariants.{Real, Custom, Anon}

-- a digit of hex in lower case
abbrev pub is_lower_hex_digit : ℕ → Bool
is_lower_hex_digit c = (nat_le 48 c && nat_le c 57) || (nat_le 97 c && nat_le c 102)

-- the bytes of a hex text in lower case
abbrev pub hex_bytes : List ℕ → Option (List ℕ)
hex_bytes t = if list_all is_lower_hex_digit t then result_ok (decode_of t) else None

-- an importer: a text for a file, an object with a custom name, or null for none
abbrev pub importer_of : Data → Option FileName
importer_of null = Some Anon
importer_of (string name) = Some (Real name)
importer_of (object ms) = option_map Custom (field_by (codes "custom") as_str (object ms))
importer_of (boolean b) = None
importer_of (number n) = None
importer_of (array ds) = None
