-- How the tree's errors become those of the top call, and back; and where a request breaks off.
use Rattle.std.specs.Prelude.{◌≡◌, ℕ, suc, Bool, IsTrue, List, [], ◌∷◌, ◌++◌, length, Option, None, IfSome, Result, Ok}
use Rattle.std.specs.Prelude.{Err}
use Rattle.tree_core.specs.declared.question.Question.{Question}
use Rattle.tree_core.specs.Question.{reply_in}
use Rattle.tree_core.specs.Tree.{Files, recorded, put_times}
use Rattle.tree_core.specs.Plan.{Plan, asked}
use Rattle.tree_core.specs.Asks.{PutBetween}
use Rattle.tree_core.specs.declared.tree.ReadError.{ReadError}
use Rattle.tree_core.specs.declared.tree.ReadError.TheVariants as read
use Rattle.resolve_stack.specs.declared.import.ImportError.{ImportError}
use Rattle.resolve_stack.specs.declared.import.ImportError.TheVariants.{TreeFault, NoMemory}

abbrev pub import_error : ReadError → ImportError
import_error read.Fault = TreeFault
import_error read.NoMemory = NoMemory

abbrev pub read_error : ImportError → ReadError
read_error TreeFault = read.Fault
read_error NoMemory = read.NoMemory

-- the result, with the tree's own errors
abbrev pub as_read : {A : Type 0} → Result A ImportError → Result A ReadError
as_read (Ok a) = Ok a
as_read (Err e) = Err (read_error e)

-- Where a fault stands, on a tree: the refused question is one of the plan's, which those before it do not have. The
-- tree was asked once for each of those, and once for this one; and where it tells a question, it is this one.
pub record FaultAt {A : Type 0} (t : Files) (before now : ℕ) (told : Option Question) (plan : Plan A) : Type 0 where
  pub put : List Question
  pub next : Question
  pub left : List Question
  pub in_order : asked t plan ≡ put ++ next ∷ left
  pub lacked : reply_in (recorded t [] put) next ≡ None
  pub counted : now ≡ put_times (suc (length (recorded t [] put))) before
  pub told_is : IfSome told (λ q. q ≡ next)

-- A fault stands so on each tree that is stood for.
pub record EndsInFault {A : Type 0} (stands_for : Files → Bool) (before now : ℕ) (told : Option Question)
    (plan : Plan A) : Type 0 where
  pub on : (t : Files) → IsTrue (stands_for t) → FaultAt t before now told plan

-- Where want of memory ended the plan, on a tree: behind some of its questions. The tree was asked once for each
-- different one of those, and at most once more.
pub record StarvedAt {A : Type 0} (t : Files) (before now : ℕ) (plan : Plan A) : Type 0 where
  pub put : List Question
  pub left : List Question
  pub in_order : asked t plan ≡ put ++ left
  pub counted : PutBetween (length (recorded t [] put)) (suc (length (recorded t [] put))) before now

-- Want of memory stands so on each tree that is stood for.
pub record EndsStarved {A : Type 0} (stands_for : Files → Bool) (before now : ℕ) (plan : Plan A) : Type 0 where
  pub on : (t : Files) → IsTrue (stands_for t) → StarvedAt t before now plan
