-- No question, reply or request holds a float, so that their compact text is known.
use Rattle.std.proofs.Common.{◌≡◌, ℕ, false, List, Option, Some, None, refl}
use Rattle.serde_json.specs.Written.{has_float}
use Rattle.swc_loader.specs.declared.resolution.FileName.{FileName}
use Rattle.swc_loader.specs.declared.resolution.FileName.TheVariants.{Real, Custom, Anon}
use Rattle.tree_core.specs.declared.question.Question.{Question}
use Rattle.tree_core.specs.declared.question.Reply.{Reply}
use Rattle.tree_core.specs.declared.question.Reply.TheVariants.{Flag, Bytes, Name}
use Rattle.trail_texts.specs.TrailTexts.{
  bytes_value,
  importer_value,
  question_value,
  reply_value,
  request_value,
  step_value,
  text_or_null,
}

text_without : (o : Option (List ℕ)) → has_float (text_or_null o) ≡ false
text_without None = refl
text_without (Some t) = refl

bytes_without : (o : Option (List ℕ)) → has_float (bytes_value o) ≡ false
bytes_without None = refl
bytes_without (Some bytes) = refl

reply_without : (r : Reply) → has_float (reply_value r) ≡ false
reply_without (Flag b) = refl
reply_without (Bytes o) = bytes_without o
reply_without (Name o) = text_without o

pub question_without : (q : Question) → has_float (question_value q) ≡ false
question_without q = refl

pub step_without : (step : Question × Reply) → has_float (step_value step) ≡ false
step_without step = rw (reply_without step.1) refl

importer_without : (name : FileName) → has_float (importer_value name) ≡ false
importer_without (Real t) = refl
importer_without (Custom t) = refl
importer_without Anon = refl

pub request_without : (importer : FileName) (specifier : List ℕ) → has_float (request_value importer specifier) ≡ false
request_without importer specifier = rw (importer_without importer) refl
