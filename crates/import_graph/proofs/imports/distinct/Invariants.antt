use Rattle.std.proofs.Common.{◌≡◌, [], bytes_eq}
use Rattle.indexmap.specs.IndexSet.{insert_all}
use Rattle.import_graph.proofs.imports.distinct.Given as goal

-- the texts so far are in the set
abbrev pub invariant-loop-text : goal.invariant-loop-text
invariant-loop-text l =
    (goal.iterator-loop-text).can_next l.text-iterator × (goal.iterator-loop-text).is_finite l.text-iterator
    × (l.set.keys ≡ insert_all bytes_eq [] l.yielded)
