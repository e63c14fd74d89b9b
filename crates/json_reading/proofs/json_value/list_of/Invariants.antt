use Rattle.std.proofs.Common.{◌≡◌, ◌++◌}
use Rattle.json_reading.proofs.ListedMembers.{told, shown}
use Rattle.json_reading.proofs.json_value.list_of.Given as goal

-- what is in the list, and what is left of the map, are the whole map
abbrev pub invariant-loop-name : goal.invariant-loop-name
invariant-loop-name l =
    (goal.iterator-loop-name).can_next l.name-iterator × (goal.iterator-loop-name).is_finite l.name-iterator
    × (told l.list.items ++ shown l.name-iterator ≡ shown l.members.entries)
