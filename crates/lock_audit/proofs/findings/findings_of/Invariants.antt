use Rattle.std.proofs.Common.{drop}
use Rattle.tree_core.specs.Asks.{Leads}
use Rattle.lock_audit.specs.Audit.{findings}
use Rattle.lock_audit.proofs.LeftFindings.{left_findings}
use Rattle.lock_audit.proofs.findings.findings_of.Given as goal

-- what is left is the edges behind, with what was found before them
abbrev pub invariant-loop-edge : goal.invariant-loop-edge
invariant-loop-edge g l =
    Leads (g.R.Asker.asking l.fn.tree) (g.R.Asker.asking l.tree)
    (findings l.lock l.manifest l.edges)
    (left_findings l.lock l.manifest l.findings.items (drop l.edge-index l.edges))
