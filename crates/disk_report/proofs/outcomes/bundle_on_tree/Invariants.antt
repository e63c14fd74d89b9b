use Rattle.std.proofs.Common.{◌≡◌, drop, map, string_bytes}
use Rattle.trail_bundle.specs.BundleView.{bundle_of}
use Rattle.disk_report.specs.Outcomes.{AreAnswered, IsBundleBy}
use Rattle.disk_report.proofs.outcomes.bundle_on_tree.Given as goal

-- the specifiers so far are answered, and the bundle is that of their outcomes
abbrev pub invariant-loop-specifier : goal.invariant-loop-specifier
invariant-loop-specifier g l = record {
  stands : (g.T.Tree.state l.tree).stands_for ≡ (g.T.Tree.state l.fn.tree).stands_for;
  count : (g.T.Tree.state l.tree).faults ≡ (g.T.Tree.state l.fn.tree).faults;
  told : AreAnswered (g.T.Tree.state l.fn.tree).stands_for l.project l.importer (map string_bytes l.specifiers)
      (drop l.specifier-index (map string_bytes l.specifiers)) (IsBundleBy (bundle_of l.bundle) l.importer);
}
