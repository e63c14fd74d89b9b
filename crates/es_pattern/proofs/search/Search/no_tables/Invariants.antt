use Rattle.std.proofs.Common.{◌≡◌, replicate, None}
use Rattle.es_pattern.proofs.search.Search.no_tables.Given as goal

abbrev pub invariant-loop-piece : goal.invariant-loop-piece
invariant-loop-piece l = l.tables.items ≡ replicate l._piece-index None
