use Rattle.std.proofs.Common.{◌≡◌, drop, map, string_bytes}
use Rattle.std.specs.Prelude.{flat_map}
use Rattle.disk_report.specs.Forms.{told_as}
use Rattle.disk_report.specs.Outcomes.{AreAnswered}
use Rattle.disk_report.proofs.outcomes.lines_on_tree.Given as goal

-- the specifiers so far are answered, and the lines are those of their outcomes
abbrev pub invariant-loop-specifier : goal.invariant-loop-specifier
invariant-loop-specifier g l = record {
  stands : (g.T.Tree.state l.tree).stands_for ≡ (g.T.Tree.state l.fn.tree).stands_for;
  count : (g.T.Tree.state l.tree).faults ≡ (g.T.Tree.state l.fn.tree).faults;
  told : AreAnswered (g.T.Tree.state l.fn.tree).stands_for l.project l.importer (map string_bytes l.specifiers)
      (drop l.specifier-index (map string_bytes l.specifiers)) (λ answered. string_bytes l.lines
      ≡ flat_map (λ a. told_as l.form l.importer a.specifier a.outcome) answered);
}
