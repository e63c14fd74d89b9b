use Rattle.std.proofs.Common.{arith}
use Rattle.std.proofs.lemmas.Grind.{common_steps}
use Rattle.json_reading.proofs.MemberReadings.{read_into-nil}
use Rattle.json_reading.proofs.objects.each_member.Goals as goal

pub loop-name-init : goal.loop-name-init
loop-name-init g c =
    let all = read_into-nil g.T.FromJson.reads g.J.JsonValue.stands_for c.args.members.items c.requires in
    grind (arith, common_steps)
