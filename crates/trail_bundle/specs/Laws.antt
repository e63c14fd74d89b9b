-- What the text of a bundle says of it, and what the trails that were added say of trees.
use Rattle.std.specs.Prelude.{◌≡◌, List, Some}
use Rattle.resolve_stack.specs.Settings.{ProjectSettings}
use Rattle.resolve_stack.specs.declared.verdict.Verdict.{Verdict}
use Rattle.tree_core.specs.Asks.{Settles}
use Rattle.tree_core.specs.Plan.{answer}
use Rattle.tree_core.specs.Question.{reply_in}
use Rattle.tree_core.specs.Tree.{Agrees, Files}
use Rattle.tree_core.specs.declared.question.Question.{Question}
use Rattle.tree_core.specs.declared.question.Reply.{Reply}
use Rattle.trail_bundle.specs.declared.request.BundleRequest.{BundleRequest}
use Rattle.trail_bundle.specs.Adding.{IsAdded}
use Rattle.trail_bundle.specs.Bundle.{Bundle, IsBundle}
use Rattle.trail_bundle.specs.BundleText.{bundle_text}
use Rattle.trail_bundle.specs.Replaying.{StandsIn, request_plan}

-- Two bundles that have one text are one.
pub record OneText : Type 0 where
  pub one : (b c : Bundle) → IsBundle b → IsBundle c → bundle_text b ≡ bundle_text c → b ≡ c

-- the first replies of a trail are among these
abbrev pub AreAmong : List (Question × Reply) → List (Question × Reply) → Type 0
AreAmong trail replies = (q : Question) (r : Reply) → reply_in trail q ≡ Some r → reply_in replies q ≡ Some r

-- The trails that were added decide their requests.
pub record TrailsDecide : Type 0 where
  -- After a trail was added, its first replies are among the bundle's, beside all that were there before.
  pub added : (request : BundleRequest) (trail : List (Question × Reply)) (old new : Bundle)
      → IsAdded request trail old new
      → AreAmong trail new.replies × AreAmong old.replies new.replies
  -- Where the first replies of a trail that settles a request's verdict are among a bundle's, that is the verdict on
  -- each tree that agrees with the bundle.
  pub outcome : (project : ProjectSettings) (r : BundleRequest) (v : Verdict) (trail replies : List (Question × Reply))
      → Settles v trail (request_plan project r) → AreAmong trail replies
      → (t : Files) → Agrees t replies → v ≡ answer t (request_plan project r)
  -- Where the replies of a tree to a request's questions are among a bundle's, each tree that agrees with the bundle
  -- has the verdict of that tree.
  pub verdict : (project : ProjectSettings) (r : BundleRequest) (replies : List (Question × Reply)) (t u : Files)
      → StandsIn replies t (request_plan project r) → Agrees u replies
      → answer u (request_plan project r) ≡ answer t (request_plan project r)
