-- Where the reading of a bundle's lines ends.
use Rattle.std.specs.Prelude.{◌≡◌, ◌+◌, ◌-◌, ◌^◌, ◌<◌, min, ℕ, List, [], ◌∷◌, ◌++◌, length}
use Rattle.tree_core.specs.declared.question.Question.{Question}
use Rattle.tree_core.specs.declared.question.Reply.{Reply}
use Rattle.trail_bundle.specs.declared.decode.Counts.{Counts}
use Rattle.trail_bundle.specs.declared.decode_error.DecodeError.{DecodeError}
use Rattle.trail_bundle.specs.declared.decode_error.DecodeError.TheVariants.{NotABundle, NoMemory}
use Rattle.trail_bundle.specs.declared.request.BundleRequest.{BundleRequest}
use Rattle.trail_bundle.specs.Bundle.{AreReplies}
use Rattle.trail_bundle.specs.BundleText.{counts_line, ended, request_line, request_lines, reply_line, reply_lines}
use Rattle.trail_bundle.specs.Lines.{first_lines}

-- what was read of two counts: each, or the largest number where that is less
pub record AreCounts (requests replies : ℕ) (counts : Counts) : Type 0 where
  pub of_requests : counts.requests ≡ min requests (2 ^ 64 - 1)
  pub of_replies : counts.replies ≡ min replies (2 ^ 64 - 1)

-- the text's first line isn't the one of any counts
abbrev pub NoCounts : List ℕ → Type 0
NoCounts text = (requests replies : ℕ) → first_lines 1 text ≡ ended (counts_line requests replies) → ⊥

-- the text's first line isn't that of a request
abbrev pub NoRequest : List ℕ → Type 0
NoRequest text = (r : BundleRequest) → first_lines 1 text ≡ ended (request_line r) → ⊥

-- the text's first line isn't that of a reply that may follow these
abbrev pub NoReply : List (Question × Reply) → List ℕ → Type 0
NoReply before text =
    (step : Question × Reply) → AreReplies (before ++ step ∷ []) → first_lines 1 text ≡ ended (reply_line step) → ⊥

-- an error that tells a line tells this one, for this cause
abbrev pub TellsLine : DecodeError → ℕ → Type 0 → Type 0
TellsLine (NotABundle line) number Cause = (line ≡ number) × Cause
TellsLine NoMemory number Cause = Unit {0}

-- so many requests were to be read, and behind some of them no request follows
pub record LacksRequest (count number : ℕ) (text : List ℕ) (line : ℕ) : Type 0 where
  pub before : List BundleRequest
  pub rest : List ℕ
  pub front : text ≡ request_lines before ++ rest
  pub few : length before < count
  pub told : line ≡ number + length before
  pub none : NoRequest rest

-- so many replies were to be read, and behind some of them no reply follows
pub record LacksReply (count number : ℕ) (text : List ℕ) (line : ℕ) : Type 0 where
  pub before : List (Question × Reply)
  pub rest : List ℕ
  pub are : AreReplies before
  pub front : text ≡ reply_lines before ++ rest
  pub few : length before < count
  pub told : line ≡ number + length before
  pub none : NoReply before rest

-- an error that tells a line tells one of which this holds
abbrev pub IfLine : DecodeError → (ℕ → Type 0) → Type 0
IfLine (NotABundle line) Holds = Holds line
IfLine NoMemory Holds = Unit {0}

-- one reply was read from the front of a text, and stands behind the others
pub record IsNextReply (before after : List (Question × Reply)) (text rest : List ℕ) : Type 0 where
  pub step : Question × Reply
  pub steps : after ≡ before ++ step ∷ []
  pub front : text ≡ ended (reply_line step) ++ rest
