use Rattle.std.proofs.Common.{◌≡◌, [], take}
use Rattle.std.specs.Prelude.{reverse}
use Rattle.es_pattern.specs.Begins.{with_begins}
use Rattle.es_pattern.proofs.begins.begin_of.Given as goal

abbrev pub invariant-loop-piece : goal.invariant-loop-piece
invariant-loop-piece l = reverse l.begins.items ≡ with_begins l.code (take l.piece-index l.pieces) []
