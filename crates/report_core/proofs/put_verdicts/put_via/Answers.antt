use Rattle.std.proofs.Common.{string_bytes, codes}
use Rattle.serde_json.specs.Data.{string}
use Rattle.report_core.proofs.Members.{Three, three-whole}
use Rattle.report_core.proofs.put_verdicts.put_via.Goals as goal

pub returns : goal.returns
returns c =
    let members : Three = record {
      key = codes "location";
      key2 = codes "name";
      key3 = codes "reference";
      value = string c.as_str.result.now;
      value2 = string c.as_str-2.result.now;
      value3 = string c.as_str-3.result.now;
    } in
    let told = three-whole c.push_str-2.result members (string_bytes c.args.out.now) (string_bytes c.push_str.new.self)
    (string_bytes c.put_member.new.out) (string_bytes c.put_text.new.out) (string_bytes c.put_member-2.new.out)
    (string_bytes c.put_text-2.new.out) (string_bytes c.put_member-3.new.out) (string_bytes c.put_text-3.new.out)
    (string_bytes c.push_str-2.new.self) c.in_ok-push_str.ensures.bytes c.in_ok-put_member.ensures
    c.in_ok-put_text.ensures c.in_ok-put_member-2.ensures c.in_ok-put_text-2.ensures c.in_ok-put_member-3.ensures
    c.in_ok-put_text-3.ensures c.push_str-2.ensures.bytes in
    rw c.in-Some.is (rw (c.as_str.ensures, c.as_str-2.ensures, c.as_str-3.ensures) at told)
