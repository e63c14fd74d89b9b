-- What a request over a tree comes to, and what it leaves of the tree.
use Rattle.std.specs.Prelude.{◌≡◌, length, IfOk, IsErrOf, Result}
use Rattle.tree_core.specs.Tree.{Files, TreeState, Agrees, HasCause, put_times}
use Rattle.tree_core.specs.Asks.{Settles, AgreeWith}
use Rattle.resolve_stack.specs.declared.import.ImportError.{ImportError}
use Rattle.resolve_stack.specs.declared.import.ImportError.TheVariants.{TreeFault, NoMemory}
use Rattle.resolve_stack.specs.declared.verdict.Outcome.{Outcome}
use Rattle.resolve_stack.specs.ImportFault.{as_read, EndsInFault, EndsStarved}
use Rattle.resolve_stack.specs.Request.{Request}
use Rattle.resolve_stack.specs.Settings.{ProjectSettings}
use Rattle.resolve_stack.specs.Through.{IsFound}
use Rattle.resolve_stack.specs.Verdict.{verdict}

-- A call decides a request of a project over a tree.
pub record Decides (project : ProjectSettings) (request : Request) (old new : TreeState)
    (result : Result Outcome ImportError) : Type 0 where
  -- The verdict and the trail are those of the order on each tree that agrees with the trail.
  pub settled : IfOk result (λ o. Settles o.verdict o.trail (verdict project request))
  -- Each tree that is stood for agrees with the trail.
  pub agree : IfOk result (λ o. AgreeWith old.stands_for o.trail)
  -- A file found through a row lies below the location of the row that binds the name asked for, or that of its alias.
  pub found : IfOk result (λ o. (t : Files) → Agrees t o.trail → IsFound t project request o.verdict)
  -- Just those trees are stood for that were before.
  pub stands : new.stands_for ≡ old.stands_for
  -- A fault of the tree has its cause, and no other answer hides one.
  pub cause : HasCause old.faults new.faults (as_read result)
  -- The tree was asked once for each question of the trail.
  pub put : IfOk result (λ o. new.questions ≡ put_times (length o.trail) old.questions)
  -- A fault refused one of the order's questions: the tree was asked once for each question before it and once for
  -- that one, and where the tree tells a question, it is that one.
  pub fails : IsErrOf result TreeFault →
      EndsInFault old.stands_for old.questions new.questions new.told (verdict project request)
  -- Where memory was wanting, the tree was asked as often as there are different questions before, or once more.
  pub starves : IsErrOf result NoMemory →
      EndsStarved old.stands_for old.questions new.questions (verdict project request)
