-- What an audit over a tree comes to, and what it leaves of the tree.
use Rattle.std.specs.Prelude.{◌≡◌, [], length, IsTrue, IfOk, IsErrOf, Option, Result}
use Rattle.sugar_path.specs.Path.{Path}
use Rattle.tree_core.specs.Asks.{seen}
use Rattle.tree_core.specs.Plan.{answer, asked}
use Rattle.tree_core.specs.Tree.{Files, TreeState, HasCause, put_times, recorded}
use Rattle.resolve_stack.specs.ImportFault.{EndsInFault, EndsStarved}
use Rattle.yarn_lock_parser.specs.Lock.{Lock}
use Rattle.lock_audit.specs.declared.audited.Audit.{Audit}
use Rattle.lock_audit.specs.declared.error.AuditError.{AuditError}
use Rattle.lock_audit.specs.declared.error.AuditError.TheVariants.{NoMemory, TreeFault}
use Rattle.lock_audit.specs.Audit.{audit}
use Rattle.lock_audit.specs.Refusal.{auditing}

-- A call audits the manifest that a file of a tree is, by a lock.
pub record Audits (lock : Option Lock) (file : Path) (old new : TreeState) (result : Result Audit AuditError) : Type 0
  where
    -- The audit, or the refusal, is the one on each tree that is stood for.
    pub answers : IfOk (seen auditing result) (λ told. (t : Files) → IsTrue (old.stands_for t)
        → answer t (audit lock file) ≡ told)
    -- The tree was asked once for each different question.
    pub put : IfOk (seen auditing result) (λ told. (t : Files) → IsTrue (old.stands_for t)
        → new.questions ≡ put_times (length (recorded t [] (asked t (audit lock file)))) old.questions)
    -- Just those trees are stood for that were before.
    pub stands : new.stands_for ≡ old.stands_for
    -- A fault of the tree has its cause, and no other answer hides one.
    pub cause : HasCause old.faults new.faults (seen auditing result)
    -- A fault refused one of the audit's questions: the tree was asked once for each question before it and once for that
    -- one, and where the tree tells a question, it is that one.
    pub fails : IsErrOf result TreeFault → EndsInFault old.stands_for old.questions new.questions new.told
        (audit lock file)
    -- Where memory was wanting, the tree was asked as often as there are different questions before, or once more.
    pub starves : IsErrOf result NoMemory → EndsStarved old.stands_for old.questions new.questions (audit lock file)
