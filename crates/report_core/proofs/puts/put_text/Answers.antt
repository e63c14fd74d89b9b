use Rattle.std.proofs.Common.{string_bytes, rules}
use Rattle.report_core.proofs.Members.{text-put}
use Rattle.report_core.proofs.puts.put_text.Goals as goal

pub returns : goal.returns
returns c =
    text-put c.push_str-3.result (string_bytes c.args.out.now) (string_bytes c.push_str.new.self)
    (string_bytes c.push_str-2.new.self) (string_bytes c.push_str-3.new.self) c.args.text.now (search rules)
    c.in_ok-push_str.ensures.bytes c.in_ok-push_str-2.ensures.bytes c.push_str-3.ensures.bytes
