use Rattle.std.proofs.Common.{◌∙◌, ap}
use Rattle.tree_core.proofs.Entries.{same_files-same, same_files-refl}
use Rattle.tree_core.specs.Memory.{Memory}
use Rattle.resolve_stack.proofs.Faults.{raised_same}
use Rattle.resolve_stack.proofs.KnownFiles.{right}
use Rattle.resolve_stack.proofs.Outcomes.{settled_here}
use Rattle.resolve_stack.proofs.known_tree.KnownTree.resolve_import.Goals as goal

pub import_by-requires : goal.import_by-requires
import_by-requires c = rw c.as_slice.ensures.value (right _ _ c.self.invariant)

pub invariant_of-self : goal.invariant_of-self
invariant_of-self c = rw (same_files-same _ _ c.in_err-outcome.ensures.stands) c.self.invariant

pub returns-in_err-outcome-clause-decides : goal.returns-in_err-outcome-clause-decides
returns-in_err-outcome-clause-decides c =
    rw (raised_same _ _ c.from_residual.ensures.1) (rw c.self.view_is at c.in_err-outcome.ensures)

pub returns-in_err-outcome-clause-files : goal.returns-in_err-outcome-clause-files
returns-in_err-outcome-clause-files c =
    same_files-same _ _ c.in_err-outcome.ensures.stands ∙ ap (λ (m : Memory). m.files) c.self.view_is

pub invariant_of-self-2 : goal.invariant_of-self-2
invariant_of-self-2 c =
    rw (same_files-same _ _ c.in_ok-outcome.ensures.stands)
    (c.learn.ensures _ (c.in_ok-outcome.ensures.agree _ (same_files-refl _)) c.self.invariant)

pub returns-clause-decides : goal.returns-clause-decides
returns-clause-decides c = rw c.self.view_is at c.in_ok-outcome.ensures

pub returns-clause-outcome : goal.returns-clause-outcome
returns-clause-outcome c =
    let decided = rw c.self.view_is at c.in_ok-outcome.ensures in
    settled_here _ _ _ _ decided.settled decided.agree

pub returns-clause-files : goal.returns-clause-files
returns-clause-files c =
    same_files-same _ _ c.in_ok-outcome.ensures.stands ∙ ap (λ (m : Memory). m.files) c.self.view_is
