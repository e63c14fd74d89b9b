use Rattle.std.proofs.Common.{◌+◌, sym, arith}
use Rattle.es_pattern.specs.Pieces.{tree_of}
use Rattle.es_pattern.specs.ReaderView.{reading}
use Rattle.es_pattern.proofs.Parsings.{byte_place_next, byte_place_below}
use Rattle.es_pattern.proofs.Refusing.{end_caused, end_clear}
use Rattle.es_pattern.proofs.parse.pieces_from.Goals as goal

pub overflow_add-place : goal.overflow_add-place
overflow_add-place c =
    omega (
      arith,
      c.requires,
      c.len_utf8-place.ensures.value,
      c.loop-number.invariant.1,
      byte_place_next c.args.characters.now c.loop-number.number c.index-characters-number.result
          c.loop-number-test.true c.index-characters-number.is,
      byte_place_below c.args.characters.now (c.loop-number.number + 1) (omega arith),
    )

pub loop-number-preserved : goal.loop-number-preserved
loop-number-preserved c = (
  c.in_ok-take_next.ensures.reads,
  omega (
    arith,
    c.len_utf8-place.ensures.value,
    c.loop-number.invariant.1,
    byte_place_next c.args.characters.now c.loop-number.number c.index-characters-number.result
        c.loop-number-test.true c.index-characters-number.is,
  ),
  c.in_ok-take_next.ensures.passes,
)

pub returns-in-Some-clause-clear : goal.returns-in-Some-clause-clear
returns-in-Some-clause-clear c = end_clear c.args.characters.now c.loop-number.number (reading c.loop-number.reader)
    (tree_of c.in-Some.pieces.items) (omega arith) (omega arith) c.loop-number.invariant.0 c.loop-number.invariant.2
    (sym (rw c.in-Some.is at c.in_ok-pieces.ensures))

pub returns-in-None-clause-fault : goal.returns-in-None-clause-fault
returns-in-None-clause-fault c = end_caused c.args.characters.now c.loop-number.number c.loop-number.place
    (reading c.loop-number.reader) (omega arith) (omega arith) c.loop-number.invariant.1 c.loop-number.invariant.0
    c.loop-number.invariant.2 (sym (rw c.in-None.is at c.in_ok-pieces.ensures))
