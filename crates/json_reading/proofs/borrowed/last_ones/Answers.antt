use Rattle.std.proofs.Common.{refl, ◌∙◌}
use Rattle.json_reading.proofs.BorrowedData.{one-more}
use Rattle.json_reading.proofs.borrowed.last_ones.Goals as goal

pub loop-member-preserved : goal.loop-member-preserved
loop-member-preserved c =
    one-more c.args.members.now c.loop-member.member-index c.member-item.result c.loop-member.map.entries
    c.insert.new.self.entries _ c.loop-member-test.true c.member-item.is refl c.in_ok-insert.ensures.entries
    ∙ c.loop-member.invariant
