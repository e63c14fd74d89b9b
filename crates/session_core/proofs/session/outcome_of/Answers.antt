use Rattle.std.proofs.Common.{Err, ap}
use Rattle.tree_core.proofs.Entries.{same_files-refl}
use Rattle.session_core.proofs.session.outcome_of.Goals as goal

pub returns-in-Err-clause-starved : goal.returns-in-Err-clause-starved
returns-in-Err-clause-starved c =
    (c.in-Err.ensures.decides.starves (ap Err c.in-Err.ensures.memory)).on _ (same_files-refl _)
