-- The trails that were added decide their requests.
use Rattle.std.proofs.Common.{◌≡◌, List, Option, Some, None, refl, sym, ap, ◌∙◌}
use Rattle.std.specs.Option.{option_or}
use Rattle.resolve_stack.specs.Settings.{ProjectSettings}
use Rattle.resolve_stack.specs.declared.verdict.Verdict.{Verdict}
use Rattle.tree_core.specs.Asks.{Settles}
use Rattle.tree_core.specs.Plan.{Plan, Done, Ask, answer, asked}
use Rattle.tree_core.specs.Question.{reply_in}
use Rattle.tree_core.specs.Tree.{Agrees, Files, reply}
use Rattle.tree_core.specs.declared.question.Question.{Question}
use Rattle.tree_core.specs.declared.question.Reply.{Reply}
use Rattle.trail_bundle.specs.declared.request.BundleRequest.{BundleRequest}
use Rattle.trail_bundle.specs.Adding.{IsAdded}
use Rattle.trail_bundle.specs.Bundle.{Bundle}
use Rattle.trail_bundle.specs.Laws.{AreAmong}
use Rattle.trail_bundle.specs.Replaying.{StandsIn, request_plan}

-- the first reply of two
first_of_two : (a b : Option Reply) (r : Reply) → ((x y : Reply) → a ≡ Some x → b ≡ Some y → x ≡ y) → b ≡ Some r
    → option_or a b ≡ Some r
first_of_two None b r agree is = is
first_of_two (Some x) b r agree is = ap Some (agree x r refl is)

first_held : (a b : Option Reply) (r : Reply) → a ≡ Some r → option_or a b ≡ Some r
first_held None b r is = cc
first_held (Some x) b r is = is

pub among_added : (request : BundleRequest) (trail : List (Question × Reply)) (old new : Bundle)
    → IsAdded request trail old new → AreAmong trail new.replies × AreAmong old.replies new.replies
among_added request trail old new added = (
  λ q r is. added.replies q ∙ first_of_two (reply_in old.replies q) (reply_in trail q) r (added.agree q) is,
  λ q r is. added.replies q ∙ first_held (reply_in old.replies q) (reply_in trail q) r is,
)

pub outcome_decided : (project : ProjectSettings) (r : BundleRequest) (v : Verdict)
    (trail replies : List (Question × Reply)) → Settles v trail (request_plan project r) → AreAmong trail replies
    → (t : Files) → Agrees t replies → v ≡ answer t (request_plan project r)
outcome_decided project r v trail replies settles among t agrees =
    settles.verdict t (λ q a is. agrees q a (among q a is))

-- replies that stand on a tree decide a plan's answer on each tree that agrees with them
same_answer : {A : Type 0} (replies : List (Question × Reply)) (t u : Files) (plan : Plan A) → StandsIn replies t plan
    → Agrees u replies → answer u plan ≡ answer t plan
unfolding answer asked
same_answer replies t u (Done a) stands agrees = refl
same_answer replies t u (Ask q next) stands agrees =
    let same : reply t q ≡ reply u q = agrees q (reply t q) stands.0 in
    ap (λ r. answer u (next r)) (sym same) ∙ same_answer replies t u (next (reply t q)) stands.1 agrees

pub verdict_decided : (project : ProjectSettings) (r : BundleRequest) (replies : List (Question × Reply)) (t u : Files)
    → StandsIn replies t (request_plan project r) → Agrees u replies
    → answer u (request_plan project r) ≡ answer t (request_plan project r)
verdict_decided project r replies t u stands agrees = same_answer replies t u (request_plan project r) stands agrees
