use Rattle.std.proofs.Common.{refl}
use Rattle.tree_core.proofs.Asking.{asks_done, asks_fails, asks_starved, leads_self, leads_as, leads_end}
use Rattle.lock_audit.proofs.LeftFindings.{leads_edge, left_end, left_findings, left_findings-all}
use Rattle.lock_audit.proofs.findings.findings_of.Goals as goal

pub loop-edge-init : goal.loop-edge-init
loop-edge-init g c =
    rw (c.new-findings.ensures.items, left_findings-all c.args.lock.now c.args.manifest.now c.args.edges.now) leads_self

pub returns-in_err-fault : goal.returns-in_err-fault
returns-in_err-fault g c =
    let h = leads_edge c.args.lock.now c.args.manifest.now c.loop-edge.findings.items c.args.edges.now
    c.loop-edge.edge-index c.edge-item.result c.loop-edge.invariant c.loop-edge-test.true c.edge-item.is in
    h.to (asks_fails _ _ c.from_residual.ensures.1 c.in_err-fault.ensures)

pub returns-in_err-put_fault : goal.returns-in_err-put_fault
returns-in_err-put_fault g c =
    let h = leads_edge c.args.lock.now c.args.manifest.now c.loop-edge.findings.items c.args.edges.now
    c.loop-edge.edge-index c.edge-item.result c.loop-edge.invariant c.loop-edge-test.true c.edge-item.is in
    (leads_as _ h c.in_ok-fault.ensures refl).to (asks_starved _ c.from_residual-in_err-put_fault.ensures.1)

pub loop-edge-preserved : goal.loop-edge-preserved
loop-edge-preserved g c =
    let h = leads_edge c.args.lock.now c.args.manifest.now c.loop-edge.findings.items c.args.edges.now
    c.loop-edge.edge-index c.edge-item.result c.loop-edge.invariant c.loop-edge-test.true c.edge-item.is in
    rw c.in_ok-put_fault.ensures (leads_as _ h c.in_ok-fault.ensures refl)

pub returns : goal.returns
returns g c =
    let h = leads_end (left_findings c.args.lock.now c.args.manifest.now c.loop-edge.findings.items) c.args.edges.now
    c.loop-edge.edge-index c.loop-edge.invariant c.loop-edge-test.false in
    h.to (rw (left_end c.args.lock.now c.args.manifest.now c.loop-edge.findings.items) (asks_done c.from.ensures))
