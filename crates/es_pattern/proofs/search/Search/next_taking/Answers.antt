use Rattle.std.proofs.Common.{sym, ◌∙◌, arith}
use Rattle.es_pattern.specs.Pieces.{tree_of}
use Rattle.es_pattern.proofs.Beginning.{unbegun_here, unbegun_next, unbegun_end}
use Rattle.es_pattern.proofs.search.Search.next_taking.Goals as goal

pub loop-place-preserved : goal.loop-place-preserved
loop-place-preserved c =
    let tree = tree_of c.args.self.now.pieces.now in
    let text = c.args.self.now.text.now in
    let place = c.loop-place.place in
    unbegun_next tree text c.args.from place c.loop-place.invariant
    (unbegun_here tree text place (omega arith) c.requires.moves (sym c.takes_at.ensures ∙ c.if-takes_at.false))

pub returns : goal.returns
returns c = unbegun_end (tree_of c.args.self.now.pieces.now) c.args.self.now.text.now c.args.from c.loop-place.place
    c.requires.later c.requires.moves (omega arith) c.loop-place.invariant
