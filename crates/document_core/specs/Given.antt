-- The files and requests of a document, read from their JSON values (RFC 8259).
-- A `do` here is over readings: it goes on with what a reading gives, and gives nothing where one of them doesn't read.
use Rattle.std.specs.Prelude.{ℕ, List, codes, Option, Some, None}
use Rattle.serde_json.specs.Data.{Data}
use Rattle.serde_json.specs.Find.{get, as_str}
use Rattle.json_reading.specs.Reading.{◌>>=◌, field_by, present_or}
use Rattle.trail_texts.specs.Reading.{hex_bytes, importer_of}
use Rattle.document_core.specs.declared.given.GivenFile.{GivenFile}
use Rattle.document_core.specs.declared.given.GivenRequest.{GivenRequest}

-- the bytes of a file: exactly one of its text and its hex
abbrev pub content_of : Option Data → Option Data → Option (List ℕ)
content_of (Some text) None = as_str text
content_of None (Some hex) = as_str hex >>= hex_bytes
content_of None None = None
content_of (Some text) (Some hex) = None

-- a file: its path, its bytes, and its canonical name, by default the path
unfoldable pub file_of : Data → Option GivenFile
file_of d = do
  path ← field_by (codes "path") as_str d
  content ← content_of (get (codes "text") d) (get (codes "hex") d)
  canonical ← present_or path as_str (get (codes "canonical") d)
  Some (record { path = path; content = content; canonical = canonical })

-- a request: who asks, and for which specifier
unfoldable pub request_of : Data → Option GivenRequest
request_of d = do
  importer ← field_by (codes "from") importer_of d
  specifier ← field_by (codes "specifier") as_str d
  Some (record { importer = importer; specifier = specifier })
