-- The text of a bundle: a line of its counts, one of each request, and one of each question with its reply.
use Rattle.std.specs.Prelude.{ℕ, List, [], ◌∷◌, ◌++◌, codes, flat_map, length}
use Rattle.serde_json.specs.Written.{compact_text}
use Rattle.tree_core.specs.declared.question.Question.{Question}
use Rattle.tree_core.specs.declared.question.Reply.{Reply}
use Rattle.trail_texts.specs.TrailTexts.{request_value, step_value}
use Rattle.trail_bundle.specs.declared.request.BundleRequest.{BundleRequest}
use Rattle.trail_bundle.specs.Bundle.{Bundle}
use Rattle.trail_bundle.specs.Counts.{count_text}

-- how many requests and replies follow
unfoldable pub counts_line : ℕ → ℕ → List ℕ
counts_line requests replies = codes "trail-bundle 1 " ++ (count_text requests ++ 32 ∷ count_text replies)

unfoldable pub request_line : BundleRequest → List ℕ
request_line r = compact_text (request_value r.importer r.specifier)

unfoldable pub reply_line : Question × Reply → List ℕ
reply_line step = compact_text (step_value step)

-- a line with its end
abbrev pub ended : List ℕ → List ℕ
ended line = line ++ 10 ∷ []

abbrev pub request_lines : List BundleRequest → List ℕ
request_lines = flat_map (λ r. ended (request_line r))

abbrev pub reply_lines : List (Question × Reply) → List ℕ
reply_lines = flat_map (λ step. ended (reply_line step))

unfoldable pub bundle_text : Bundle → List ℕ
bundle_text b =
    ended (counts_line (length b.requests) (length b.replies)) ++ (request_lines b.requests ++ reply_lines b.replies)
