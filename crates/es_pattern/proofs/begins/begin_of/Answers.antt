use Rattle.std.proofs.Common.{◌≡◌, [], List, take, sym, ap, ◌∙◌, arith}
use Rattle.std.proofs.lemmas.List.{take_all}
use Rattle.es_pattern.specs.declared.begins.Begin.{Begin}
use Rattle.es_pattern.specs.declared.piece.Piece.{Piece}
use Rattle.es_pattern.specs.Begins.{with_begin, with_begins, top_begin}
use Rattle.es_pattern.proofs.Beginning.{pushed, begins_more, whole_is}
use Rattle.es_pattern.proofs.Compiling.{stands_there}
use Rattle.es_pattern.proofs.begins.begin_of.Goals as goal

pub loop-piece-preserved : goal.loop-piece-preserved
loop-piece-preserved c =
    let pieces = c.args.pieces.now in
    let stands =
    stands_there pieces c.loop-piece.piece-index c.piece-item.result c.loop-piece-test.true c.piece-item.is in
    pushed c.joined-begin.new.begins.items c.push.new.self.items c.joined-begin.result c.in_ok-push.ensures.items
    ∙ c.joined-begin.ensures
    ∙ ap (with_begin c.args.code c.piece-item.result) c.loop-piece.invariant
    ∙ sym (begins_more c.args.code pieces c.loop-piece.piece-index c.piece-item.result [] stands)

pub returns-clause-stays : goal.returns-clause-stays
returns-clause-stays c =
    let all : with_begins c.args.code (take c.loop-piece.piece-index c.args.pieces.now) [] ≡ with_begins c.args.code
    c.args.pieces.now [] = ap (λ (ps : List Piece). with_begins c.args.code ps [])
    (take_all c.loop-piece.piece-index c.args.pieces.now (omega arith)) in
    ap (λ (b : Begin). b.stays) (c.pop_last.ensures.last ∙ ap top_begin (c.loop-piece.invariant ∙ all)
    ∙ whole_is c.args.code c.args.pieces.now)

pub returns-clause-takes : goal.returns-clause-takes
returns-clause-takes c =
    let all : with_begins c.args.code (take c.loop-piece.piece-index c.args.pieces.now) [] ≡ with_begins c.args.code
    c.args.pieces.now [] = ap (λ (ps : List Piece). with_begins c.args.code ps [])
    (take_all c.loop-piece.piece-index c.args.pieces.now (omega arith)) in
    ap (λ (b : Begin). b.takes) (c.pop_last.ensures.last ∙ ap top_begin (c.loop-piece.invariant ∙ all)
    ∙ whole_is c.args.code c.args.pieces.now)
