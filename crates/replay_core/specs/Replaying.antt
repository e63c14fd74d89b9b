-- What a replay of a trail comes to.
use Rattle.std.specs.Prelude.{◌≡◌, is_none, List, [], Option, Some, None, Result, Ok, Err}
use Rattle.std.specs.List.{find}
use Rattle.tree_core.specs.declared.question.Question.{Question}
use Rattle.tree_core.specs.declared.question.Reply.{Reply}
use Rattle.tree_core.specs.declared.tree.ReadError.{ReadError}
use Rattle.tree_core.specs.Question.{reply_in}
use Rattle.tree_core.specs.Tree.{Files, Agrees}
use Rattle.tree_core.specs.Plan.{Plan, answer, asked}
use Rattle.tree_core.specs.Asks.{Asking, Asks, Settles}
use Rattle.replay_core.specs.Agreeing.{agrees_with}
use Rattle.replay_core.specs.declared.replaying.ReplayError.{ReplayError}
use Rattle.replay_core.specs.declared.replaying.ReplayError.TheVariants.{NotRecorded, NoMemory}

-- the first of some questions to which a trail has no reply
abbrev pub first_unrecorded : List (Question × Reply) → List Question → Option Question
first_unrecorded trail questions = find (λ q. is_none (reply_in trail q)) questions

-- A replayed answer: on each tree that agrees with the trail it is the plan's, and the trail has all questions that the
-- plan puts there.
pub record IsReplayedAnswer {A : Type 0}
    (a : A) (trail : List (Question × Reply)) (plan : Plan A) : Type 0 where
  pub answers : (t : Files) → Agrees t trail → a ≡ answer t plan
  pub recorded : (t : Files) → Agrees t trail → first_unrecorded trail (asked t plan) ≡ None

-- A question that a replay misses: the trail doesn't have it, and on each tree that agrees with the trail it is the
-- first such one that the plan puts there.
pub record IsMissing {A : Type 0}
    (q : Question) (trail : List (Question × Reply)) (plan : Plan A) : Type 0 where
  pub lacked : reply_in trail q ≡ None
  pub first : (t : Files) → Agrees t trail → first_unrecorded trail (asked t plan) ≡ Some q

-- What a replay of a plan answers: the plan's answer, or the question that it misses. Out of memory, nothing is said.
abbrev pub Replays : {A : Type 0} →
    Result A ReplayError → List (Question × Reply) → Plan A → Type 0
Replays (Ok a) trail plan = IsReplayedAnswer a trail plan
Replays (Err (NotRecorded q)) trail plan = IsMissing q trail plan
Replays (Err NoMemory) trail plan = Unit {0}

-- the answer itself, unless it is out of memory
abbrev pub IsAgain : {A : Type 0} → Result A ReplayError → A → Type 0
IsAgain (Ok b) a = b ≡ a
IsAgain (Err e) a = e ≡ NoMemory

-- Where a tree agrees with a trail that settles an answer, a replay of the trail gives that answer, unless it is out of
-- memory.
pub record GivesAgain {A : Type 0}
    (result : Result A ReplayError) (trail : List (Question × Reply)) (plan : Plan A) : Type 0 where
  pub again : (t : Files) (a : A) → Agrees t trail → Settles a trail plan → IsAgain result a

-- A search by a plan that began with an empty trail, over a tree that stands for those that agree with a trail.
pub record IsSearch {A : Type 0} (trail : List (Question × Reply))
    (before now : Asking) (result : Result A ReadError) (plan : Plan A) : Type 0 where
  pub empty : before.trail ≡ []
  pub over : before.tree.stands_for ≡ agrees_with trail
  pub asks : Asks before now result plan
