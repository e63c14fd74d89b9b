use Rattle.es_pattern.proofs.Compiling.{Classing}
use Rattle.es_pattern.proofs.compile.classes_of.Given as goal

abbrev pub invariant-loop-piece : goal.invariant-loop-piece
invariant-loop-piece l = Classing l.pieces l.piece-index l.classes.items
