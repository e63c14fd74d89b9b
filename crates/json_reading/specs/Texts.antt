-- What was read from a text.
use Rattle.std.specs.Prelude.{◌≡◌, false}
use Rattle.json.specs.Value.{value_view}
use Rattle.serde_json.specs.Data.{Data}
use Rattle.serde_json.specs.View.{view}
use Rattle.serde_json.specs.Written.{has_float}
use Rattle.json_reading.specs.Borrowed.{data_of}
use Rattle.json_reading.specs.declared.texts.ReadJson.{ReadJson}
use Rattle.json_reading.specs.declared.texts.ReadJson.TheVariants.{Borrowed, Owned}

-- the data that was read, whoever owns its texts
abbrev pub data_in : ReadJson → Data
data_in (Borrowed v) = data_of (value_view v)
data_in (Owned v) = view v

-- a value that borrows its texts holds no float
abbrev pub HasNoFloat : ReadJson → Type 0
HasNoFloat (Borrowed v) = has_float (data_of (value_view v)) ≡ false
HasNoFloat (Owned v) = Unit {0}
