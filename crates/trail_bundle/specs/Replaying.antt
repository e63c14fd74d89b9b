-- What the requests of a bundle come to by its replies.
use Rattle.std.specs.Prelude.{◌≡◌, ℕ, List, ◌∷◌, ◌++◌, length, map, Some, None}
use Rattle.std.specs.List.{AllByRecursion}
use Rattle.replay_core.specs.Replaying.{IsMissing, first_unrecorded}
use Rattle.resolve_stack.specs.Request.{asked_for}
use Rattle.resolve_stack.specs.Settings.{ProjectSettings}
use Rattle.resolve_stack.specs.Verdict.{verdict}
use Rattle.resolve_stack.specs.declared.verdict.Verdict.{Verdict}
use Rattle.tree_core.specs.Plan.{Plan, answer, asked}
use Rattle.tree_core.specs.Tree.{Agrees, Files, reply}
use Rattle.tree_core.specs.Question.{reply_in}
use Rattle.tree_core.specs.declared.question.Question.{Question}
use Rattle.tree_core.specs.declared.question.Reply.{Reply}
use Rattle.trail_bundle.specs.declared.replay_error.BundleReplayError.{BundleReplayError}
use Rattle.trail_bundle.specs.declared.replay_error.BundleReplayError.TheVariants.{NotRecorded, NoMemory}
use Rattle.trail_bundle.specs.declared.request.BundleRequest.{BundleRequest}

-- how a request ends in a project
abbrev pub request_plan : ProjectSettings → BundleRequest → Plan Verdict
request_plan project r = verdict project (asked_for r.importer r.specifier)

-- the verdicts of requests on a tree, in order
abbrev pub verdicts_on : Files → ProjectSettings → List BundleRequest → List Verdict
verdicts_on t project requests = map (λ r. answer t (request_plan project r)) requests

-- the replies have each question that a request's order puts to a tree which agrees with them
abbrev pub IsHeld : List (Question × Reply) → ProjectSettings → BundleRequest → Type 0
IsHeld replies project r = (t : Files) → Agrees t replies
    → first_unrecorded replies (asked t (request_plan project r)) ≡ None

-- Verdicts that were replayed: they are those of the requests on each tree that agrees with the replies, which have all
-- questions that are put there.
pub record AreReplayed (told : List Verdict) (replies : List (Question × Reply))
    (project : ProjectSettings) (requests : List BundleRequest) : Type 0 where
  pub verdicts : (t : Files) → Agrees t replies → told ≡ verdicts_on t project requests
  pub held : AllByRecursion (IsHeld replies project) requests

-- The first request whose order comes to a question that the replies don't have: on each tree that agrees with them it
-- is the first such question of its order, and they have all questions of the requests before.
pub record IsMissed (number : ℕ) (q : Question) (replies : List (Question × Reply))
    (project : ProjectSettings) (requests : List BundleRequest) : Type 0 where
  pub before : List BundleRequest
  pub request : BundleRequest
  pub later : List BundleRequest
  pub in_order : requests ≡ before ++ request ∷ later
  pub number_is : number ≡ length before
  pub missing : IsMissing q replies (request_plan project request)
  pub earlier : AllByRecursion (IsHeld replies project) before

-- why requests aren't replayed
abbrev pub IsNotRecorded : BundleReplayError → List (Question × Reply) → ProjectSettings
    → List BundleRequest → Type 0
IsNotRecorded (NotRecorded request question) replies project requests =
    IsMissed request question replies project requests
IsNotRecorded NoMemory replies project requests = Unit {0}

-- each question that a plan puts to a tree stands in the replies, with the tree's reply
abbrev pub StandsIn : {A : Type 0} → List (Question × Reply) → Files → Plan A → Type 0
StandsIn replies t plan = AllByRecursion (λ q. reply_in replies q ≡ Some (reply t q)) (asked t plan)

-- so does each question of all requests
abbrev pub AllStandIn : List (Question × Reply) → Files → ProjectSettings
    → List BundleRequest → Type 0
AllStandIn replies t project requests =
    AllByRecursion (λ r. StandsIn replies t (request_plan project r)) requests
