use Rattle.std.proofs.Common.{string_bytes, codes}
use Rattle.report_core.specs.Verdicts.{refused_value}
use Rattle.report_core.proofs.Members.{one-front}
use Rattle.report_core.proofs.put_verdicts.put_front.Goals as goal

pub returns-in_ok-put_member-in-Refused : goal.returns-in_ok-put_member-in-Refused
returns-in_ok-put_member-in-Refused c =
    let told = one-front c.put_refused.result (codes "refused") (refused_value c.in-Refused.refusal)
    (string_bytes c.args.out.now) (string_bytes c.push_str.new.self) (string_bytes c.put_member.new.out)
    (string_bytes c.put_refused.new.out) c.in_ok-push_str-in-Refused.ensures.bytes
    c.in_ok-put_member-in-Refused.ensures c.put_refused.ensures in
    rw c.in-Refused.is told
