-- The value of a document's bytes.
use Rattle.std.specs.Prelude.{ℕ, List, ok_or, Result}
use Rattle.serde_json.specs.Data.{Data}
use Rattle.json_reading.specs.Bytes.{json_of}
use Rattle.document_core.specs.declared.cause.Cause.{Cause}
use Rattle.document_core.specs.declared.cause.Cause.TheVariants.{NotJson}

-- the value that the bytes are, or that they aren't JSON
abbrev pub json_value : List ℕ → Result Data Cause
json_value bytes = ok_or (json_of bytes) NotJson
