use Rattle.std.proofs.Common.{string_bytes, codes}
use Rattle.std.specs.Prelude.{map}
use Rattle.serde_json.specs.Data.{array, string}
use Rattle.serde_json.specs.View.{items_of}
use Rattle.graph_report.specs.Lines.{edge_value}
use Rattle.graph_report.proofs.Items.{two-whole}
use Rattle.graph_report.proofs.lines.put_node.Goals as goal

pub returns : goal.returns
returns c =
    let told = two-whole c.push_str-2.result (codes "edges") (codes "file")
    (array (items_of (map edge_value c.as_slice.result.now)))
    (string c.as_str.result.now) (string_bytes c.args.out.now) (string_bytes c.push_str.new.self)
    (string_bytes c.put_member.new.out) (string_bytes c.put_edges.new.out) (string_bytes c.put_member-2.new.out)
    (string_bytes c.put_text.new.out) (string_bytes c.push_str-2.new.self) c.in_ok-push_str.ensures.bytes
    c.in_ok-put_member.ensures c.in_ok-put_edges.ensures c.in_ok-put_member-2.ensures c.in_ok-put_text.ensures
    c.push_str-2.ensures.bytes in
    rw (c.as_slice.ensures, c.as_str.ensures) at told
