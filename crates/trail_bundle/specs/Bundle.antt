-- A bundle: its requests in order, and a finite map from questions to replies, as the list of its pairs in the order of
-- the questions.
use Rattle.std.specs.Prelude.{Bool, true, nat_lt, ◌&&◌, IsTrue, List, Some, None}
use Rattle.std.specs.FinMap.{is_sorted}
use Rattle.std.specs.List.{list_all}
use Rattle.tree_core.specs.declared.question.Question.{Question}
use Rattle.tree_core.specs.declared.question.Reply.{Reply}
use Rattle.tree_core.specs.declared.question.Reply.TheVariants.{Flag, Bytes, Name}
use Rattle.tree_core.specs.Question.{fits}
use Rattle.trail_bundle.specs.declared.request.BundleRequest.{BundleRequest}
use Rattle.trail_bundle.specs.QuestionOrder.{question_cmp}

pub record Bundle : Type 0 where
  pub requests : List BundleRequest
  pub replies : List (Question × Reply)

-- the bytes of a reply are bytes
abbrev pub holds_bytes : Reply → Bool
holds_bytes (Flag b) = true
holds_bytes (Bytes None) = true
holds_bytes (Bytes (Some bytes)) = list_all (λ b. nat_lt b 256) bytes
holds_bytes (Name name) = true

-- a reply of the question's kind
abbrev pub is_reply : Question × Reply → Bool
is_reply step = fits step.0 step.1 && holds_bytes step.1

-- the replies of a bundle: each question once, in order, with a reply of its kind
pub record AreReplies (steps : List (Question × Reply)) : Type 0 where
  pub ascend : IsTrue (is_sorted question_cmp steps)
  pub fit : IsTrue (list_all is_reply steps)

pub record IsBundle (b : Bundle) : Type 0 where
  pub replies : AreReplies b.replies
