use Rattle.std.proofs.Common.{sym}
use Rattle.lock_checks.specs.Borrowed.{borrowed}
use Rattle.lock_checks.proofs.Bindings.{borrowed_err}
use Rattle.tree_core.specs.Resolving.{resolving}
use Rattle.tree_core.proofs.Asking.{asks_then, asks_fails_in}
use Rattle.resolve_stack.specs.Known.{read_by}
use Rattle.resolve_stack.proofs.ManifestRows.{known_row, read_row}
use Rattle.resolve_stack.proofs.join_rows.read_manifest.Goals as goal

pub returns-in_err-content-clause-asks : goal.returns-in_err-content-clause-asks
unfolding read_by
returns-in_err-content-clause-asks g c =
    asks_fails_in resolving _ (borrowed c.from_residual.result) (borrowed_err _ _ c.from_residual.ensures.1)
    c.in_err-content.ensures

pub returns-in-Some-clause-asks : goal.returns-in-Some-clause-asks
unfolding read_by
returns-in-Some-clause-asks g c = asks_then _ c.in_ok-content.ensures (known_row _ _ _ (sym c.in-Some.ensures.known))

pub returns-clause-asks : goal.returns-clause-asks
unfolding read_by
returns-clause-asks g c =
    asks_then _ c.in_ok-content.ensures (read_row c.manifest_of.result _ _ _ (sym c.in-None.ensures.known)
    c.manifest_of.ensures.decided)
