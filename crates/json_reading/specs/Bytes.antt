-- Which bytes are JSON (RFC 8259), and the value that they are.
use Rattle.std.specs.Prelude.{◌==◌, ℕ, List, length, Option, None, if◌then◌else◌}
use Rattle.std.specs.Str.Lossy.{utf8_valid_len}
use Rattle.serde_json.specs.Data.{Data}
use Rattle.serde_json.specs.Read.{read}

-- the value of bytes that are all UTF-8 and read as JSON of at most 127 levels; a repeated key has its last value
unfoldable pub json_of : List ℕ → Option Data
json_of bytes = if utf8_valid_len bytes == length bytes then read bytes else None
