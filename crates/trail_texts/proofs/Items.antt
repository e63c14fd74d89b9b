-- The bytes that a hex text is read to, and an importer that is neither null nor a text.
use Rattle.std.proofs.Common.{◌≡◌, true, false, true≢false, ℕ, List, Some, None, Ok, refl}
use Rattle.std.specs.List.{list_all}
use Rattle.std.specs.Prelude.{codes, option_map}
use Rattle.hex.specs.Hex.{decode_of}
use Rattle.serde_json.specs.Data.{Data, null, boolean, number, string, array, object}
use Rattle.serde_json.specs.Find.{as_str}
use Rattle.json_reading.specs.Kinds.{is_null}
use Rattle.json_reading.specs.Reading.{field_by}
use Rattle.swc_loader.specs.declared.resolution.FileName.TheVariants.{Custom}
use Rattle.trail_texts.specs.Reading.{hex_bytes, importer_of, is_lower_hex_digit}

-- the bytes of a hex text in lower case
pub hex_read : (t bytes : List ℕ) → list_all is_lower_hex_digit t ≡ true → decode_of t ≡ Ok bytes
    → hex_bytes t ≡ Some bytes
hex_read t bytes lower decoded = rw (lower, decoded)

-- any other importer is read as an object with a custom name
pub importer_of-other : (d : Data) → is_null d ≡ false → as_str d ≡ None
    → importer_of d ≡ option_map Custom (field_by (codes "custom") as_str d)
importer_of-other null other text = absurd (true≢false other)
importer_of-other (boolean b) other text = refl
importer_of-other (number n) other text = refl
importer_of-other (string s) other text = absurd (cc)
importer_of-other (array ds) other text = refl
importer_of-other (object ms) other text = refl
