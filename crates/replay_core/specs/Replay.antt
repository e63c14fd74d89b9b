-- A tree that answers from a trail: what contracts see of it, and what a question to it leaves.
use Rattle.std.specs.Prelude.{◌≡◌, ℕ, List, Option, Some, None, Result, Ok, Err, IfOk, IsErrOf}
use Rattle.tree_core.specs.declared.question.Question.{Question}
use Rattle.tree_core.specs.declared.question.Reply.{Reply}
use Rattle.tree_core.specs.declared.tree.ReadError.{ReadError}
use Rattle.tree_core.specs.declared.tree.ReadError.TheVariants.{Fault, NoMemory}
use Rattle.tree_core.specs.Question.{reply_in}
use Rattle.tree_core.specs.Tree.{TreeState, IsPut, one_more}
use Rattle.replay_core.specs.Agreeing.{agrees_with}

-- the trail, how many questions were refused and how many were put, and the question that was refused last
pub record Replay : Type 0 where
  pub trail : List (Question × Reply)
  pub faults : ℕ
  pub questions : ℕ
  pub missing : Option Question

-- it stands for the trees that agree with the trail, and tells the question that it refused last
abbrev pub replay_state : Replay → TreeState
replay_state r = record {
  stands_for = agrees_with r.trail;
  faults = r.faults;
  questions = r.questions;
  told = r.missing;
}

-- one question more was put
abbrev pub counted : Replay → Replay
counted r = record r { questions = one_more r.questions }

-- a question was refused, and is kept in place of an earlier one
abbrev pub refused : Question → Replay → Replay
refused q r = record r { faults = one_more r.faults; missing = Some q }

-- what a question leaves: each is counted, and a fault is counted and kept
abbrev pub left_by : {A : Type 0} → Question → Result A ReadError → Replay → Replay
left_by q (Ok a) r = counted r
left_by q (Err Fault) r = refused q (counted r)
left_by q (Err NoMemory) r = counted r

-- A question to a tree that answers from a trail: the first reply that is recorded is answered, and just a question
-- that isn't recorded is a fault.
pub record IsRepliedFromTrail {A : Type 0} (wrap : A → Reply) (q : Question)
    (old new : Replay) (result : Result A ReadError) : Type 0 where
  pub put : IsPut wrap q (replay_state old) (replay_state new) result
  pub known : IfOk result (λ a. reply_in old.trail q ≡ Some (wrap a))
  pub unknown : IsErrOf result Fault → reply_in old.trail q ≡ None
  pub left : new ≡ left_by q result old
