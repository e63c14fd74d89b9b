-- What a trail that is added to a bundle comes to.
use Rattle.std.specs.Prelude.{◌≡◌, ◌≢◌, ℕ, List, [], ◌∷◌, ◌++◌, Some}
use Rattle.std.specs.List.{AllByRecursion}
use Rattle.std.specs.Option.{option_or}
use Rattle.swc_loader.specs.declared.resolution.FileName.{FileName}
use Rattle.tree_core.specs.declared.question.Question.{Question}
use Rattle.tree_core.specs.declared.question.Reply.{Reply}
use Rattle.tree_core.specs.Question.{reply_in}
use Rattle.trail_bundle.specs.declared.bundle_error.BundleError.{BundleError}
use Rattle.trail_bundle.specs.declared.bundle_error.BundleError.TheVariants.{Conflict, NoMemory}
use Rattle.trail_bundle.specs.declared.request.BundleRequest.{BundleRequest}
use Rattle.trail_bundle.specs.Bundle.{Bundle}

-- a specifier that is asked for by an importer
abbrev pub request_for : FileName → List ℕ → BundleRequest
request_for importer specifier = record { importer = importer; specifier = specifier }

-- the kept replies and a trail's first ones have no two replies for a question
abbrev pub AgreeAt : List (Question × Reply) → List (Question × Reply) → Question → Type 0
AgreeAt kept trail q = (a b : Reply) → reply_in kept q ≡ Some a → reply_in trail q ≡ Some b → a ≡ b

-- the request stands last, and the trail's first replies stand beside all that stood there before
pub record IsAdded (request : BundleRequest) (trail : List (Question × Reply)) (old new : Bundle) : Type 0 where
  pub requests : new.requests ≡ old.requests ++ request ∷ []
  pub replies : (q : Question) → reply_in new.replies q ≡ option_or (reply_in old.replies q) (reply_in trail q)
  pub agree : (q : Question) → AgreeAt old.replies trail q

-- a question to which a trail's first reply is another one than the kept one
pub record Differ (q : Question) (a b : Reply) (kept trail : List (Question × Reply)) : Type 0 where
  pub of_kept : reply_in kept q ≡ Some a
  pub of_trail : reply_in trail q ≡ Some b
  pub differ : a ≢ b

-- the first such question of the trail
pub record IsConflict (q : Question) (a b : Reply) (kept trail : List (Question × Reply)) : Type 0 where
  pub here : Differ q a b kept trail
  pub before : List (Question × Reply)
  pub step : Question × Reply
  pub later : List (Question × Reply)
  pub in_order : trail ≡ before ++ step ∷ later
  pub asked : step.0 ≡ q
  pub first : AllByRecursion (λ step. AgreeAt kept trail step.0) before

-- why a trail is refused
abbrev pub IsRefusedBy : BundleError → List (Question × Reply) → List (Question × Reply) → Type 0
IsRefusedBy (Conflict question a b) kept trail = IsConflict question a b kept trail
IsRefusedBy NoMemory kept trail = Unit {0}

-- an error that tells a conflict tells one at this question
abbrev pub TellsDiffer : BundleError → Question → List (Question × Reply) → List (Question × Reply) → Type 0
TellsDiffer (Conflict question a b) q kept trail = (question ≡ q) × Differ question a b kept trail
TellsDiffer NoMemory q kept trail = Unit {0}
