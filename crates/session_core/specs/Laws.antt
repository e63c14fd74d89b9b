-- Why a session stays right: an edit changes few replies, and what it may change is dropped.
use Rattle.std.specs.Prelude.{◌≡◌, ℕ, false, List}
use Rattle.std.specs.FinMap as finite
use Rattle.tree_core.specs.declared.question.Question.{Question}
use Rattle.tree_core.specs.Question.{path_asked}
use Rattle.tree_core.specs.declared.tree.TreeFile.{TreeFile}
use Rattle.tree_core.specs.Tree.{Files, reply}
use Rattle.tree_core.specs.Memory.{with_file}
use Rattle.session_core.specs.Entries.{bears_on}
use Rattle.session_core.specs.Session.{Session, Step, IsSession, after_steps}

-- An edit changes no reply to a question on another path that doesn't stand above the edited one.
pub record EditsLeaveReplies : Type 0 where
  pub put : (t : Files) (path : List ℕ) (file : TreeFile) (q : Question) →
      bears_on path (path_asked q) ≡ false → reply (with_file t path file) q ≡ reply t q
  pub remove : (t : Files) (path : List ℕ) (q : Question) →
      bears_on path (path_asked q) ≡ false → reply (finite.remove t path) q ≡ reply t q

-- Over any list of asks, puts and removals, each outcome that is kept is the request's on the tree as it is then.
pub record StaysRight : Type 0 where
  pub after : (s : Session) (steps : List Step) → IsSession s → IsSession (after_steps s steps)
