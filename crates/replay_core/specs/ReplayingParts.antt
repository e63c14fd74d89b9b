-- How a replay ends, by the first question that its recorder put and the trail lacks, the question that its tree
-- missed, and what the search came to.
use Rattle.std.specs.Prelude.{◌≡◌, [], ◌∷◌, List, map, Option, Some, None, Result, Ok, Err}
use Rattle.tree_core.specs.declared.question.Question.{Question}
use Rattle.tree_core.specs.declared.question.Reply.{Reply}
use Rattle.tree_core.specs.declared.tree.ReadError.{ReadError}
use Rattle.tree_core.specs.declared.tree.ReadError.TheVariants as read
use Rattle.replay_core.specs.declared.replaying.ReplayError.{ReplayError}
use Rattle.replay_core.specs.declared.replaying.ReplayError.TheVariants.{NotRecorded, NoMemory}
use Rattle.replay_core.specs.Replaying.{first_unrecorded}

-- the questions of a trail, in order
abbrev pub questions_of : List (Question × Reply) → List Question
questions_of trail = map (λ step. step.0) trail

-- a question that is missed, if it is known
abbrev pub misses : {A : Type 0} → Option Question → Result A ReplayError
misses (Some q) = Err (NotRecorded q)
misses None = Err NoMemory

-- the error of a question that is missed, unless it is out of memory
abbrev pub IsMissedOf : ReplayError → Option Question → Type 0
IsMissedOf (NotRecorded q) o = o ≡ Some q
IsMissedOf NoMemory o = Unit {0}

-- the question, where the trail has no reply to it
abbrev pub if_unrecorded : List (Question × Reply) → Option Question → Option Question
if_unrecorded trail None = None
if_unrecorded trail (Some q) = first_unrecorded trail (q ∷ [])

-- where all questions that were put are recorded
abbrev pub decided : {A : Type 0} →
    List (Question × Reply) → Option Question → Result A ReadError → Result A ReplayError
decided trail missing (Ok a) = Ok a
decided trail missing (Err read.Fault) = misses (if_unrecorded trail missing)
decided trail missing (Err read.NoMemory) = Err NoMemory

abbrev pub ended : {A : Type 0} → List (Question × Reply) → Option Question → Option Question
    → Result A ReadError → Result A ReplayError
ended trail (Some q) missing result = Err (NotRecorded q)
ended trail None missing result = decided trail missing result

-- a result that is this one, unless it is out of memory
abbrev pub IsUnlessStarved : {A : Type 0} → Result A ReplayError → Result A ReplayError → Type 0
IsUnlessStarved (Ok a) end = end ≡ Ok a
IsUnlessStarved (Err (NotRecorded q)) end = end ≡ Err (NotRecorded q)
IsUnlessStarved (Err NoMemory) end = Unit {0}
