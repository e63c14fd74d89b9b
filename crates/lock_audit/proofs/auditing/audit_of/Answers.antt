use Rattle.std.proofs.Common.{◌≡◌, ◌∙◌, ap, length, rules, sym}
use Rattle.tree_core.proofs.Asking.{asks_done, asks_fails, asks_starved, asks_then}
use Rattle.lock_audit.specs.Audit.{audit_of, count_of}
use Rattle.lock_audit.specs.Edges.{edges}
use Rattle.lock_audit.proofs.WholeAudits.{count_is}
use Rattle.lock_audit.proofs.auditing.audit_of.Goals as goal

pub returns-in_err-edges : goal.returns-in_err-edges
returns-in_err-edges g c = asks_starved _ c.from_residual.ensures.1

pub returns-in_err-findings : goal.returns-in_err-findings
unfolding audit_of
returns-in_err-findings g c = asks_fails _ _ c.from_residual-in_err-findings.ensures.1
    (rw (c.as_slice.ensures.value, c.in_ok-edges.ensures) at c.in_err-findings.ensures)

pub returns-in_err-unused : goal.returns-in_err-unused
unfolding audit_of
returns-in_err-unused g c =
    asks_then _ (rw (c.as_slice.ensures.value, c.in_ok-edges.ensures) at c.in_ok-findings.ensures)
    (asks_starved _ c.from_residual-in_err-unused.ensures.1)

pub returns : goal.returns
unfolding audit_of
returns g c =
    let unused = rw c.file.ensures at c.in_ok-unused.ensures in
    let count : c.len.result ≡ count_of (edges c.args.manifest.now) =
    count_is c.len.result (edges c.args.manifest.now) (c.len.ensures ∙ sym c.as_slice.ensures.len
    ∙ ap length (c.as_slice.ensures.value ∙ c.in_ok-edges.ensures)) (search rules) in
    asks_then _ (rw (c.as_slice.ensures.value, c.in_ok-edges.ensures) at c.in_ok-findings.ensures)
    (asks_done (λ i. record { findings = c.in_ok-findings.findings; unused = unused i; edges = count i }))
