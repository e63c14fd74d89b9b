-- What the value of a line reads as: a request, or a question with its reply. Only the text that is written for it
-- again tells whether the line is one.
use Rattle.std.specs.Prelude.{ℕ, List, bytes_eq, codes, Option, Some, None, option_map, if◌then◌else◌}
use Rattle.serde_json.specs.Data.{Data}
use Rattle.serde_json.specs.Find.{at, as_bool, as_str}
use Rattle.json_reading.specs.Reading.{◌>>=◌, field_by, nullable_by}
use Rattle.tree_core.specs.declared.question.Question.{Question}
use Rattle.tree_core.specs.declared.question.Question.TheVariants.{File, Dir, Exists, Read, Canon}
use Rattle.tree_core.specs.declared.question.Reply.{Reply}
use Rattle.tree_core.specs.declared.question.Reply.TheVariants.{Flag, Bytes, Name}
use Rattle.trail_texts.specs.Reading.{hex_bytes, importer_of}
use Rattle.trail_bundle.specs.declared.request.BundleRequest.{BundleRequest}

-- a request: who asks, and for which specifier
unfoldable pub request_of : Data → Option BundleRequest
request_of d = do
  importer ← field_by (codes "from") importer_of d
  specifier ← field_by (codes "specifier") as_str d
  Some (record { importer = importer; specifier = specifier })

-- the question of a named kind on a path
abbrev pub question_named : List ℕ → List ℕ → Option Question
question_named kind path =
    if bytes_eq kind (codes "file") then Some (File path)
    else if bytes_eq kind (codes "dir") then Some (Dir path)
    else if bytes_eq kind (codes "exists") then Some (Exists path)
    else if bytes_eq kind (codes "read") then Some (Read path)
    else if bytes_eq kind (codes "canon") then Some (Canon path)
    else None

-- the bytes of a hex text
abbrev pub bytes_of : Data → Option (List ℕ)
bytes_of d = as_str d >>= hex_bytes

-- the reply to a question
abbrev pub reply_to : Question → Data → Option Reply
reply_to (File p) d = option_map Flag (as_bool d)
reply_to (Dir p) d = option_map Flag (as_bool d)
reply_to (Exists p) d = option_map Flag (as_bool d)
reply_to (Read p) d = option_map Bytes (nullable_by bytes_of d)
reply_to (Canon p) d = option_map Name (nullable_by as_str d)

-- the kind, the path and the reply of a step
abbrev pub step_parts : Data → Option (List ℕ × List ℕ × Data)
step_parts d = do
  kind ← at 0 d >>= as_str
  path ← at 1 d >>= as_str
  told ← at 2 d
  Some (kind, path, told)

-- a question with its reply
unfoldable pub step_of : Data → Option (Question × Reply)
step_of d = do
  parts ← step_parts d
  question ← question_named parts.0 parts.1
  reply ← reply_to question parts.2
  Some (question, reply)
