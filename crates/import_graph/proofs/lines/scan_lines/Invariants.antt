use Rattle.std.proofs.Common.{◌≡◌, map}
use Rattle.std.specs.List.{filter_map}
use Rattle.import_graph.specs.Lines.{import_of}
use Rattle.import_graph.proofs.lines.scan_lines.Given as goal

-- what the lines so far import
abbrev pub invariant-loop-line : goal.invariant-loop-line
invariant-loop-line l =
    (goal.iterator-loop-line).can_next l.line-iterator ×
    (goal.iterator-loop-line).is_finite l.line-iterator ×
    (l.texts.items ≡ filter_map import_of (map (λ line. line.now) l.yielded))
