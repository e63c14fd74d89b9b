use Rattle.std.proofs.Common.{string_bytes, codes}
use Rattle.trail_texts.specs.TrailTexts.{text_or_null}
use Rattle.report_core.specs.Verdicts.{found_value, name_value}
use Rattle.report_core.proofs.Members.{Three, three-but}
use Rattle.report_core.proofs.put_verdicts.put_answer.Goals as goal

pub returns : goal.returns
returns c =
    let members : Three = record {
      key = codes "answer";
      key2 = codes "found";
      key3 = codes "slug";
      value = name_value c.args.answer.now.filename;
      value2 = found_value c.args.answer.now.found;
      value3 = text_or_null c.args.answer.now.slug;
    } in
    three-but c.put_optional.result members (string_bytes c.args.out.now) (string_bytes c.push_str.new.self)
    (string_bytes c.put_member.new.out) (string_bytes c.put_name.new.out) (string_bytes c.put_member-2.new.out)
    (string_bytes c.put_found.new.out) (string_bytes c.put_member-3.new.out) (string_bytes c.put_optional.new.out)
    c.in_ok-push_str.ensures.bytes c.in_ok-put_member.ensures c.in_ok-put_name.ensures c.in_ok-put_member-2.ensures
    c.in_ok-put_found.ensures c.in_ok-put_member-3.ensures c.put_optional.ensures
