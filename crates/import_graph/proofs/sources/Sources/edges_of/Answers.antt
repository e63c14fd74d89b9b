use Rattle.std.proofs.Common.{sym, subst}
use Rattle.std.specs.HashMap.{get_by_text}
use Rattle.tree_core.specs.Tree.{Files}
use Rattle.import_graph.specs.Scans.{AreScans}
use Rattle.import_graph.proofs.sources.Sources.edges_of.Goals as goal

pub invariant_of-self-2 : goal.invariant_of-self-2
invariant_of-self-2 g c = subst (λ (t : Files). AreScans g.S.Scan.imports t (get_by_text c.keep_scan.new.scans))
    (sym c.edges_by.ensures.same.files) c.keep_scan.ensures.kept
