-- Which bytes are the value that was read.
use Rattle.std.proofs.Common.{◌≡◌, true, ℕ, ◌==◌, List, length, IsUtf8, eq-eqb, sym, ap}
use Rattle.std.specs.Str.Lossy.{utf8_valid_len}
use Rattle.std.proofs.lemmas.Str.{utf8_valid_len-IsUtf8}
use Rattle.serde_json.specs.Read.{read}
use Rattle.json_reading.specs.Bytes.{json_of}

-- bytes that are a text read as it does
pub json_of-text : (bytes text : List ℕ) → text ≡ bytes → IsUtf8 bytes → json_of bytes ≡ read text
unfolding json_of
json_of-text bytes text same utf8 =
    let whole : (utf8_valid_len bytes == length bytes) ≡ true = eq-eqb _ _ (utf8_valid_len-IsUtf8 bytes utf8) in
    rw whole (ap read (sym same))
