use Rattle.std.proofs.Common.{◌≡◌, ◌++◌}
use Rattle.std.specs.List.{filter_map}
use Rattle.lock_audit.specs.Edges.{edge_of}
use Rattle.lock_audit.proofs.edges.put_bindings.Given as goal

-- the edges so far stand in front of those of the bindings that are left
abbrev pub invariant-loop-name : goal.invariant-loop-name
invariant-loop-name l =
    (goal.iterator-loop-name).can_next l.name-iterator × (goal.iterator-loop-name).is_finite l.name-iterator
    × (l.found.items ++ filter_map (edge_of l.owner) l.name-iterator
    ≡ l.fn.found.items ++ filter_map (edge_of l.owner) l.bindings.entries)
