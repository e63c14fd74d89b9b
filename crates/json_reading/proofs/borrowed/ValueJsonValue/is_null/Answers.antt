use Rattle.std.proofs.Common.{◌∙◌}
use Rattle.json_reading.proofs.BorrowedData.{null-data_of}
use Rattle.json_reading.proofs.borrowed.ValueJsonValue.is_null.Goals as goal

pub returns : goal.returns
returns c = c.is_null.ensures ∙ null-data_of _
