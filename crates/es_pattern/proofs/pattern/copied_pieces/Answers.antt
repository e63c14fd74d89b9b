use Rattle.es_pattern.proofs.Passings.{copied_more}
use Rattle.es_pattern.proofs.pattern.copied_pieces.Goals as goal

pub loop-piece-preserved : goal.loop-piece-preserved
loop-piece-preserved c =
    copied_more c.loop-piece.copies.items c.push.new.self.items c.args.pieces.now c.loop-piece.piece-index
    c.piece-item.result c.in_ok-copied_piece.field-0
    c.in_ok-push.ensures.items c.loop-piece.invariant c.in_ok-copied_piece.ensures c.loop-piece-test.true
    c.piece-item.is
