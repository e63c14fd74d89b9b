-- What requests over a tree come to, whether or not the tree tells which files it stands for.
use Rattle.std.specs.Prelude.{◌≡◌, ℕ, Bool, IsTrue, List, [], ◌∷◌, ◌++◌, flat_map, map, IsOk, IsOkAnd, Ok, Err}
use Rattle.std.specs.List.{AllByRecursion}
use Rattle.tree_core.specs.Asks.{AgreeWith, Settles}
use Rattle.tree_core.specs.Plan.{Plan, answer}
use Rattle.tree_core.specs.Tree.{Agrees, Files}
use Rattle.tree_core.specs.declared.question.Question.{Question}
use Rattle.tree_core.specs.declared.question.Reply.{Reply}
use Rattle.swc_loader.specs.declared.resolution.FileName.{FileName}
use Rattle.swc_loader.specs.declared.resolution.FileName.TheVariants.{Real}
use Rattle.resolve_stack.specs.Outcomes.{request_outcome}
use Rattle.resolve_stack.specs.Request.{asked_for}
use Rattle.resolve_stack.specs.Settings.{ProjectSettings}
use Rattle.resolve_stack.specs.Verdict.{verdict}
use Rattle.resolve_stack.specs.declared.verdict.Outcome.{Outcome}
use Rattle.resolve_stack.specs.declared.verdict.Verdict.{Verdict}
use Rattle.trail_bundle.specs.Adding.{IsConflict, request_for}
use Rattle.trail_bundle.specs.Bundle.{Bundle}
use Rattle.trail_bundle.specs.BundleText.{bundle_text}
use Rattle.trail_bundle.specs.FirstReplies.{replies_in}
use Rattle.trail_bundle.specs.Laws.{AreAmong}
use Rattle.disk_report.specs.Asked.{Asked}
use Rattle.disk_report.specs.DiskRequest.{project_of}
use Rattle.disk_report.specs.Forms.{told_as}
use Rattle.disk_report.specs.declared.error.DiskError.{DiskError}
use Rattle.disk_report.specs.declared.error.DiskError.TheVariants.{Refused, TreeFault, TwoReplies, NoMemory}
use Rattle.disk_report.specs.declared.forms.DiskForm.{DiskForm}
use Rattle.disk_report.specs.declared.forms.DiskForm.TheVariants as form

-- a specifier, and what asking for it came to
pub record Answered : Type 0 where
  pub specifier : List ℕ
  pub outcome : Outcome

-- the plan of the verdict on a specifier, in a project
abbrev pub plan_of : ProjectSettings → FileName → List ℕ → Plan Verdict
plan_of project importer specifier = verdict project (asked_for importer specifier)

-- An outcome over a tree. The trail decides the verdict: it is the order's on every tree that agrees with the trail, as
-- each does that is stood for.
pub record IsDecided (stands_for : Files → Bool) (project : ProjectSettings) (importer : FileName)
    (a : Answered) : Type 0 where
  pub settled : Settles a.outcome.verdict a.outcome.trail (plan_of project importer a.specifier)
  pub agree : AgreeWith stands_for a.outcome.trail

abbrev pub AreDecided : (Files → Bool) → ProjectSettings → FileName → List Answered → Type 0
AreDecided stands_for project importer = AllByRecursion (IsDecided stands_for project importer)

-- the outcomes of specifiers on a tree of files, in order
abbrev pub outcomes_on : Files → ProjectSettings → FileName → List (List ℕ) → List Answered
outcomes_on t project importer specifiers =
    map (λ s. record { specifier = s; outcome = request_outcome t project (asked_for importer s) }) specifiers

-- the trails of outcomes, one behind the other
abbrev pub trails_of : List Answered → List (Question × Reply)
trails_of answered = flat_map (λ a. a.outcome.trail) answered

-- the bundle of outcomes: their requests, in order, and the first reply of their trails to each question
abbrev pub bundle_by : FileName → List Answered → Bundle
bundle_by importer answered = record {
  requests = map (λ a. request_for importer a.specifier) answered;
  replies = replies_in (trails_of answered);
}

-- what is told of outcomes
abbrev pub text_by : DiskForm → FileName → List Answered → List ℕ
text_by (form.Outcomes each) importer answered =
    flat_map (λ a. told_as each importer a.specifier a.outcome) answered
text_by form.Bundle importer answered = bundle_text (bundle_by importer answered)

-- each verdict is that of every tree that agrees with the replies
abbrev pub AllDecide : List (Question × Reply) → ProjectSettings → FileName → List Answered → Type 0
AllDecide replies project importer answered = (t : Files) → Agrees t replies
    → AllByRecursion (λ a. a.outcome.verdict ≡ answer t (plan_of project importer a.specifier)) answered

-- A text is told of requests, and this fact holds of it.
pub record IsTold (stands_for : Files → Bool) (request : Asked) (Fact : List ℕ → Type 0) : Type 0 where
  -- the project that they are asked in
  pub project : ProjectSettings
  pub accepted : project_of request ≡ Ok project
  -- an outcome for each specifier, in order
  pub answered : List Answered
  pub in_order : map (λ a. a.specifier) answered ≡ request.specifiers
  pub decided : AreDecided stands_for project (Real request.importer) answered
  -- the fact, and that so it is of what is told of the outcomes on each tree that is stood for
  pub fact : Fact (text_by request.form (Real request.importer) answered)
  pub on : (t : Files) → IsTrue (stands_for t) → Fact (text_by request.form (Real request.importer)
      (outcomes_on t project (Real request.importer) request.specifiers))
  -- a bundle's replies decide the verdict of each of its requests
  pub bundled : request.form ≡ form.Bundle
      → AllDecide (bundle_by (Real request.importer) answered).replies project (Real request.importer) answered

-- The first of some specifiers were answered, and this fact holds of their outcomes. The others are left.
pub record AreAnswered (stands_for : Files → Bool) (project : ProjectSettings) (importer : FileName)
    (specifiers left : List (List ℕ)) (Fact : List Answered → Type 0) : Type 0 where
  pub answered : List Answered
  pub in_order : map (λ a. a.specifier) answered ++ left ≡ specifiers
  pub decided : AreDecided stands_for project importer answered
  pub fact : Fact answered

-- a bundle is that of outcomes, and has all their trails
pub record IsBundleBy (b : Bundle) (importer : FileName) (answered : List Answered) : Type 0 where
  pub is : b ≡ bundle_by importer answered
  pub among : AllByRecursion (λ a. AreAmong a.outcome.trail b.replies) answered

-- The tree gave two replies to one question: the trail of one request has another first reply than those of the
-- requests before it. No tree of files does that, so none is stood for.
pub record AnswersInTwoWays (stands_for : Files → Bool) (project : ProjectSettings) (importer : FileName)
    (specifiers : List (List ℕ)) : Type 0 where
  -- the outcomes so far, and the one that is in conflict with them
  pub before : List Answered
  pub next : Answered
  pub later : List (List ℕ)
  pub in_order : map (λ a. a.specifier) before ++ next.specifier ∷ later ≡ specifiers
  pub decided : AreDecided stands_for project importer before
  pub next_decided : IsDecided stands_for project importer next
  -- the question, and its two replies
  pub question : Question
  pub kept : Reply
  pub given : Reply
  pub conflict : IsConflict question kept given (replies_in (trails_of before)) next.outcome.trail
  pub none : (t : Files) → IsTrue (stands_for t) → ⊥

-- an error of asking the tree
abbrev pub IsOfTree : DiskError → Type 0
IsOfTree (Refused cause) = ⊥
IsOfTree TreeFault = Unit {0}
IsOfTree TwoReplies = ⊥
IsOfTree NoMemory = Unit {0}

-- an error of making a bundle
abbrev pub IsOfBundle : (Files → Bool) → ProjectSettings → FileName → List (List ℕ) → DiskError → Type 0
IsOfBundle stands_for project importer specifiers (Refused cause) = ⊥
IsOfBundle stands_for project importer specifiers TreeFault = Unit {0}
IsOfBundle stands_for project importer specifiers TwoReplies = AnswersInTwoWays stands_for project importer specifiers
IsOfBundle stands_for project importer specifiers NoMemory = Unit {0}

-- A refusal is the cause against the project. The tree fails only where the project is accepted, and that it gave two
-- replies to one question is told only of a bundle.
abbrev pub IsCauseOf : (Files → Bool) → Asked → DiskError → Type 0
IsCauseOf stands_for r (Refused cause) = project_of r ≡ Err cause
IsCauseOf stands_for r TreeFault = IsOk (project_of r)
IsCauseOf stands_for r TwoReplies = (r.form ≡ form.Bundle) × IsOkAnd (project_of r)
    (λ project. AnswersInTwoWays stands_for project (Real r.importer) r.specifiers)
IsCauseOf stands_for r NoMemory = Unit {0}
