use Rattle.std.proofs.Common.{◌≡◌, drop}
use Rattle.json.specs.Value.{members_view}
use Rattle.serde_json.specs.Data.{no_members}
use Rattle.json_reading.specs.Borrowed.{data_of_members}
use Rattle.json_reading.specs.Kinds.{listed}
use Rattle.json_reading.proofs.BorrowedData.{told}
use Rattle.json_reading.proofs.borrowed.last_ones.Given as goal

-- what is left, put into what is there, is the whole
abbrev pub invariant-loop-member : goal.invariant-loop-member
invariant-loop-member l =
    data_of_members (members_view (drop l.member-index l.members)) (listed told l.map.entries) ≡ data_of_members
    (members_view l.members) no_members
