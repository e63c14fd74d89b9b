use Rattle.std.proofs.Common.{string_bytes, codes}
use Rattle.serde_json.specs.Data.{no_members, string}
use Rattle.report_core.specs.Verdicts.{verdict_value}
use Rattle.graph_report.proofs.Items.{two-whole}
use Rattle.graph_report.proofs.lines.put_edge.Goals as goal

pub returns : goal.returns
returns c =
    let told = two-whole c.push_str-2.result (codes "specifier") (codes "verdict") (string c.as_str.result.now)
    (verdict_value no_members c.args.edge.now.verdict) (string_bytes c.args.out.now) (string_bytes c.push_str.new.self)
    (string_bytes c.put_member.new.out) (string_bytes c.put_text.new.out) (string_bytes c.put_member-2.new.out)
    (string_bytes c.put_verdict.new.out) (string_bytes c.push_str-2.new.self) c.in_ok-push_str.ensures.bytes
    c.in_ok-put_member.ensures c.in_ok-put_text.ensures c.in_ok-put_member-2.ensures c.in_ok-put_verdict.ensures
    c.push_str-2.ensures.bytes in
    rw c.as_str.ensures at told
