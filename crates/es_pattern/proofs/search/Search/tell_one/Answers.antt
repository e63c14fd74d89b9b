use Rattle.std.proofs.Common.{◌≡◌, ◌+◌, Bool, Option, None, length, ap, ◌∙◌, arith}
use Rattle.std.specs.Global.{Vec}
use Rattle.std.specs.Prelude.{slice_get, Some}
use Rattle.std.proofs.lemmas.Option.{gets, slice_get_within}
use Rattle.std.proofs.lemmas.Grind.{common_steps}
use Rattle.es_pattern.specs.declared.piece.Piece.TheVariants.{Lookahead}
use Rattle.es_pattern.proofs.Searching.{told_now, told_kept, told_more, missing, not_missing}
use Rattle.es_pattern.proofs.TurnCounts.{told_turns, piece_passes}
use Rattle.es_pattern.proofs.search.Search.tell_one.Goals as goal

pub table_of-requires-clause-ready : goal.table_of-requires-clause-ready
table_of-requires-clause-ready g c =
    let stands : slice_get c.args.self.now.pieces.now c.args.number ≡ Some (Lookahead c.in-Some-Lookahead.negated) =
    grind (arith, common_steps, gets) in
    rw c.deref.ensures.value (c.requires.ready c.in-Some-Lookahead.negated stands)

pub table_of-requires-clause-stands : goal.table_of-requires-clause-stands
table_of-requires-clause-stands g c = grind (arith, common_steps, gets)

pub returns-in_ok-table-clause-told : goal.returns-in_ok-table-clause-told
returns-in_ok-table-clause-told g c = told_more c.args.self.now.pieces.now c.args.self.now.text.now
    c.args.tables.now.items c.args.number c.in_ok-table.table c.requires.told c.in_ok-table.ensures.table

pub returns-in_ok-table-clause-kept : goal.returns-in_ok-table-clause-kept
returns-in_ok-table-clause-kept g c = λ k told.
    let stands : slice_get c.args.self.now.pieces.now c.args.number ≡ Some (Lookahead c.in-Some-Lookahead.negated) =
    grind (arith, common_steps, gets) in
    told_kept c.args.tables.now.items c.args.number c.in_ok-table.table k
    (omega (
      arith,
      c.requires.told.counted,
      slice_get_within c.args.self.now.pieces.now c.args.number (Lookahead c.in-Some-Lookahead.negated) stands,
    )) told

pub returns-in_ok-table-clause-now : goal.returns-in_ok-table-clause-now
returns-in_ok-table-clause-now g c = λ negated at.
    told_now c.args.tables.now.items c.args.number c.in_ok-table.table
    (omega (
      arith,
      c.requires.told.counted,
      slice_get_within c.args.self.now.pieces.now c.args.number (Lookahead negated) at,
    ))

pub returns-else-is_none-clause-now : goal.returns-else-is_none-clause-now
returns-else-is_none-clause-now g c = λ negated at.
    let there = not_missing c.index.result.now c.if-is_none.ensures in
    let read : slice_get c.args.tables.now.items c.args.number ≡ Some c.index.result.now =
    grind (arith, common_steps, gets) in
    (there.0, read ∙ ap (λ (o : Option (Vec Bool)). Some o) there.1)

pub returns-in_ok-table-clause-turns : goal.returns-in_ok-table-clause-turns
returns-in_ok-table-clause-turns g c =
    let pieces = c.args.self.now.pieces.now in
    let places = length c.args.self.now.text.now + 1 in
    let stands : slice_get pieces c.args.number ≡ Some (Lookahead c.in-Some-Lookahead.negated) =
    grind (arith, common_steps, gets) in
    let read : slice_get c.args.tables.now.items c.args.number ≡ Some c.index.result.now =
    grind (arith, common_steps, gets) in
    let untold : slice_get c.args.tables.now.items c.args.number ≡ Some None =
    read ∙ ap (λ (o : Option (Vec Bool)). Some o) (missing c.index.result.now c.if-is_none.ensures) in
    omega (
      arith,
      c.in_ok-table.ensures.turns,
      told_turns places pieces 0 c.args.number c.args.number c.args.tables.now.items c.in_ok-table.table (omega arith)
          untold,
      piece_passes places pieces c.args.number c.in-Some-Lookahead.negated stands,
    )
