-- The value of a string or a template.
use Rattle.std.specs.Prelude.{ℕ, List, encode_utf8_all}
use Rattle.std.specs.Char.Utf16.{utf16_lossy_chars}
use Rattle.std.specs.Str.{chars}
use Rattle.es_imports.specs.Escapes.{units_of}

-- what stands between quotes or backquotes, with its escapes read; U+FFFD stands for a surrogate without its partner
abbrev pub value_of : List ℕ → List ℕ
value_of text = encode_utf8_all (utf16_lossy_chars (units_of (chars text)))
