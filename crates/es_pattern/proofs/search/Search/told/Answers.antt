use Rattle.std.proofs.Common.{◌≡◌, ◌-◌, length, false, arith}
use Rattle.std.specs.Prelude.{slice_get, unwrap_or, Some}
use Rattle.std.proofs.lemmas.Option.{gets}
use Rattle.std.proofs.lemmas.Grind.{common_steps}
use Rattle.es_pattern.proofs.Passings.{told_right}
use Rattle.es_pattern.proofs.search.Search.told.Goals as goal

pub returns-in-Some-table : goal.returns-in-Some-table
returns-in-Some-table c = λ negated at.
    let table = c.in-Some-table.table in
    let stands : slice_get c.args.tables.now c.args.number ≡ Some (Some table) = grind (arith, common_steps, gets) in
    let read : c.unwrap_or.result ≡ unwrap_or (slice_get table.items (length c.args.self.now.text.now - c.args.place))
    false = grind (arith, common_steps, gets) in
    told_right c.args.self.now.pieces.now c.args.self.now.text.now c.args.number c.args.place table.items
    c.unwrap_or.result (c.requires.told.each c.args.number negated table at stands) c.requires.place read

pub returns-in-None : goal.returns-in-None
returns-in-None c = λ negated at. grind (arith, common_steps, gets)
