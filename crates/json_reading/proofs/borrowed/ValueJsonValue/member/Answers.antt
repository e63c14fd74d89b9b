use Rattle.json_reading.proofs.BorrowedData.{member-told}
use Rattle.json_reading.proofs.borrowed.ValueJsonValue.member.Goals as goal

pub returns : goal.returns
returns c = member-told c.args.name.now c.args.self.now c.get.result c.get.ensures
