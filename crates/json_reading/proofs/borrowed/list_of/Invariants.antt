use Rattle.std.proofs.Common.{◌≡◌, ◌++◌}
use Rattle.json_reading.proofs.borrowed.list_of.Given as goal

-- what is in the list, and what is left of the map, are the whole map
abbrev pub invariant-loop-entry : goal.invariant-loop-entry
invariant-loop-entry l =
    (goal.iterator-loop-entry).can_next l.entry-iterator × (goal.iterator-loop-entry).is_finite l.entry-iterator
    × (l.list.items ++ l.entry-iterator ≡ l.fn.map.entries)
