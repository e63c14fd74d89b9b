-- The questions and replies of a trail, and requests, as values of JSON (RFC 8259).
use Rattle.std.specs.Prelude.{ℕ, List, codes, Option, Some, None}
use Rattle.hex.specs.Hex.{encode_lower}
use Rattle.serde_json.specs.Data.{Data, null, boolean, string, array, object, item, no_items, member, no_members}
use Rattle.swc_loader.specs.declared.resolution.FileName.{FileName}
use Rattle.swc_loader.specs.declared.resolution.FileName.TheVariants.{Real, Custom, Anon}
use Rattle.tree_core.specs.declared.question.Question.{Question}
use Rattle.tree_core.specs.declared.question.Question.TheVariants.{File, Dir, Exists, Read, Canon}
use Rattle.tree_core.specs.declared.question.Reply.{Reply}
use Rattle.tree_core.specs.declared.question.Reply.TheVariants.{Flag, Bytes, Name}
use Rattle.tree_core.specs.Question.{path_asked}

abbrev pub text_or_null : Option (List ℕ) → Data
text_or_null None = null
text_or_null (Some t) = string t

abbrev pub kind_name : Question → List ℕ
kind_name (File p) = codes "file"
kind_name (Dir p) = codes "dir"
kind_name (Exists p) = codes "exists"
kind_name (Read p) = codes "read"
kind_name (Canon p) = codes "canon"

-- a file's bytes as hex in lower case, and null for no file
abbrev pub bytes_value : Option (List ℕ) → Data
bytes_value None = null
bytes_value (Some bytes) = string (encode_lower bytes)

abbrev pub reply_value : Reply → Data
reply_value (Flag b) = boolean b
reply_value (Bytes bytes) = bytes_value bytes
reply_value (Name name) = text_or_null name

-- a question: its kind and its path
abbrev pub question_value : Question → Data
question_value q = array (item (string (kind_name q)) (item (string (path_asked q)) no_items))

-- a question with its reply
abbrev pub step_value : Question × Reply → Data
step_value step = array
    (item (string (kind_name step.0))
    (item (string (path_asked step.0))
    (item (reply_value step.1) no_items)))

-- what asks: the text of a path, an object with a custom name, or null
abbrev pub importer_value : FileName → Data
importer_value (Real t) = string t
importer_value (Custom t) = object (member (codes "custom") (string t) no_members)
importer_value Anon = null

-- a request: what asks, and the specifier that it asks for
abbrev pub request_value : FileName → List ℕ → Data
request_value importer specifier = object
    (member (codes "from") (importer_value importer)
    (member (codes "specifier") (string specifier) no_members))
