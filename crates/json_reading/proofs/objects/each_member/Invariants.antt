use Rattle.std.proofs.Common.{◌≡◌}
use Rattle.std.specs.Vec.Iter.{into_iter_items}
use Rattle.json_reading.specs.Kinds.{listed}
use Rattle.json_reading.specs.Reading.{members_by}
use Rattle.json_reading.proofs.MemberReadings.{read_into}
use Rattle.json_reading.proofs.objects.each_member.Given as goal

-- what is left to read, put into what is read, is the whole
abbrev pub invariant-loop-name : goal.invariant-loop-name
invariant-loop-name g l =
    (goal.iterator-loop-name g).can_next l.name-iterator × (goal.iterator-loop-name g).is_finite l.name-iterator
    × (read_into g.T.FromJson.reads g.J.JsonValue.stands_for l.read.entries (into_iter_items l.name-iterator) ≡
    members_by g.T.FromJson.reads (listed g.J.JsonValue.stands_for l.fn.members.items))
