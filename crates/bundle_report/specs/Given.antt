-- What a replay document gives: the settings of a project and the text of a bundle.
-- A `do` here is over results: it goes on with what a step gives, and ends by the first error.
use Rattle.std.specs.Prelude.{ℕ, List, codes, Result, Ok}
use Rattle.serde_json.specs.Data.{Data}
use Rattle.serde_json.specs.Find.{as_str}
use Rattle.json_reading.specs.Reading.{field_by}
use Rattle.document_core.specs.Cause.{◌>>=◌}
use Rattle.document_core.specs.Fields.{required, settings_of}
use Rattle.document_core.specs.Json.{json_value}
use Rattle.document_core.specs.declared.cause.Cause.{Cause}
use Rattle.document_core.specs.declared.cause.Field.TheVariants as field
use Rattle.bundle_report.specs.declared.document.ReplayDocument.{ReplayDocument}

-- the replay document that a JSON value gives, or the first cause against its fields
unfoldable pub fields_of : Data → Result ReplayDocument Cause
fields_of d = do
  given ← settings_of d
  bundle ← required field.Bundle (field_by (codes "bundle") as_str d)
  Ok (record { settings = given.0; lock = given.1; bundle = bundle })

-- the fields of a replay document, or the first cause against them
unfoldable pub fields_in : List ℕ → Result ReplayDocument Cause
fields_in bytes = do
  value ← json_value bytes
  fields_of value
