use Rattle.es_pattern.specs.Pieces.{tree_of}
use Rattle.es_pattern.specs.Begins.{NoneBegins}
use Rattle.es_pattern.proofs.search.Search.next_taking.Given as goal

abbrev pub invariant-loop-place : goal.invariant-loop-place
invariant-loop-place l = NoneBegins (tree_of l.self.pieces.now) l.self.text.now l.from l.place
