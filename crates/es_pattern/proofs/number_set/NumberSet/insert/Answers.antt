use Rattle.std.proofs.Common.{◌≡◌, ◌/◌, get_or, arith}
use Rattle.std.proofs.lemmas.Grind.{common_steps}
use Rattle.es_pattern.proofs.NumberSets.{inserted_here, inserted_kept, inserted_none_else}
use Rattle.es_pattern.proofs.number_set.NumberSet.insert.Goals as goal

pub returns-then-at-len-clause-added : goal.returns-then-at-len-clause-added
returns-then-at-len-clause-added c = λ lt. inserted_here c.args.self.now.words.items c.args.number c.index.result.now lt

pub returns-then-at-len-clause-kept : goal.returns-then-at-len-clause-kept
returns-then-at-len-clause-kept c =
    let read : c.index.result.now ≡ get_or c.args.self.now.words.items (c.args.number / 64) 0 =
    grind (arith, common_steps) in
    inserted_kept c.args.self.now.words.items c.args.number c.index.result.now (omega arith) read

pub returns-then-at-len-clause-none_else : goal.returns-then-at-len-clause-none_else
returns-then-at-len-clause-none_else c =
    let read : c.index.result.now ≡ get_or c.args.self.now.words.items (c.args.number / 64) 0 =
    grind (arith, common_steps) in
    inserted_none_else c.args.self.now.words.items c.args.number c.index.result.now (omega arith) read
