use Rattle.std.proofs.Common.{◌≡◌, [], take}
use Rattle.es_pattern.specs.Pieces.{with_pieces}
use Rattle.es_pattern.proofs.pattern.copied_pieces.Given as goal

abbrev pub invariant-loop-piece : goal.invariant-loop-piece
invariant-loop-piece l = with_pieces l.copies.items [] ≡ with_pieces (take l.piece-index l.pieces) []
