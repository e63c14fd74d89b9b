use Rattle.std.proofs.Common.{arith}
use Rattle.std.proofs.lemmas.Str.{IsCharBoundary-after_ascii}
use Rattle.es_imports.proofs.scan.body_of.Goals as goal

pub range-requires-clause-start_boundary : goal.range-requires-clause-start_boundary
range-requires-clause-start_boundary c =
    let some = c.requires.some in
    let within = c.requires.within in
    λ _. IsCharBoundary-after_ascii c.args.text.now c.args.place c.utf8.text (omega arith) c.requires.first
