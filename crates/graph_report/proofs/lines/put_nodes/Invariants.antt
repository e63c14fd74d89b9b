use Rattle.std.proofs.Common.{◌++◌, string_bytes}
use Rattle.std.specs.Prelude.{map}
use Rattle.serde_json.specs.Data.{array}
use Rattle.graph_report.specs.Lines.{node_value}
use Rattle.serde_json.specs.View.{items_of}
use Rattle.serde_json.specs.Written.{compact_text}
use Rattle.graph_report.proofs.Items.{AreLeft}
use Rattle.graph_report.proofs.lines.put_nodes.Given as goal

-- what is put, and the items that are left, are the text of all
abbrev pub invariant-loop-i : goal.invariant-loop-i
invariant-loop-i l =
    AreLeft node_value l.nodes l.i (string_bytes l.fn.out ++ compact_text (array (items_of (map node_value l.nodes))))
    (string_bytes l.out)
