use Rattle.std.proofs.Common.{Ok, Err, refl, ap, arith}
use Rattle.std.proofs.lemmas.Grind.{common_steps}
use Rattle.sugar_path.specs.Path.{path_in}
use Rattle.tree_core.specs.Resolving.{resolving}
use Rattle.tree_core.specs.Asks.{seen}
use Rattle.lock_audit.specs.declared.audited.Audit.{Audit}
use Rattle.lock_audit.proofs.WholeAudits.{audits_by, seen_loading}
use Rattle.lock_audit.proofs.auditing.audit_over.Goals as goal

pub returns-in_err-audited-clause-audits : goal.returns-in_err-audited-clause-audits
returns-in_err-audited-clause-audits g c =
    audits_by c.args.lock.now (path_in c.args.manifest_path.now)
    (seen {A = Audit} resolving (Err c.in_err-audited.field-0.0)) c.from_residual.result _ _
    c.new-recorder.ensures.trail
    (λ t stands. c.audit_at-audited.new.tree.agrees t (rw c.in_err-audited.ensures.stands stands))
    c.in_err-audited.ensures (seen_loading _ _ c.from_residual.ensures.1) (ap g.T.Tree.state c.new-recorder.ensures.at)
    (grind (arith, common_steps))

pub returns-clause-audits : goal.returns-clause-audits
returns-clause-audits g c =
    audits_by c.args.lock.now (path_in c.args.manifest_path.now) (Ok (Ok c.in_ok-audited.field-0))
    (Ok c.in_ok-audited.field-0) _ _ c.new-recorder.ensures.trail
    (λ t stands. c.audit_at-audited.new.tree.agrees t (rw c.in_ok-audited.ensures.stands stands))
    c.in_ok-audited.ensures refl (ap g.T.Tree.state c.new-recorder.ensures.at) (grind (arith, common_steps))
