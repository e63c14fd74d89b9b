use Rattle.std.proofs.Common.{length, refl}
use Rattle.std.proofs.lemmas.Result.{err_from_is_err_and}
use Rattle.es_pattern.specs.Reading.{start}
use Rattle.es_pattern.specs.ReaderView.{reading}
use Rattle.es_pattern.proofs.Parsings.{reads_next}
use Rattle.es_pattern.proofs.Refusing.{
  reaches,
  refused_caused,
  passes_more,
  syntax_caused,
  braces_before,
  overcount_caused,
}
use Rattle.es_pattern.proofs.parse.take_next.Goals as goal

pub returns-in_err-refused-clause-fault : goal.returns-in_err-refused-clause-fault
returns-in_err-refused-clause-fault c =
    let old = reading c.args.reader.now in
    let groups = length old.groups in
    let h = reaches c.args.characters.now c.args.number groups c.args.place old c.requires.number c.requires.reads
    c.requires.passes refl c.requires.place in
    let p = err_from_is_err_and c.from_residual.result c.from_residual.ensures.1 in rw (p.1, p.2)
    (refused_caused c.args.characters.now c.args.number groups c.args.place old h c.in_err-refused.field-0.0
    c.in_err-refused.ensures)

pub braces_place-requires : goal.braces_place-requires
braces_place-requires c =
    let old = reading c.args.reader.now in
    let groups = length old.groups in
    let h = reaches c.args.characters.now c.args.number groups c.args.place old c.requires.number c.requires.reads
    c.requires.passes refl c.requires.place in
    braces_before c.args.characters.now c.args.number groups c.args.place old h c.in_ok-refused.ensures
    c.index-characters-number.result c.index-characters-number.is (reading c.take.new.self)
    (rw c.in-TooLarge.is at c.in_ok-take.ensures)

pub returns-in-Yes-clause-reads : goal.returns-in-Yes-clause-reads
returns-in-Yes-clause-reads c =
    let taken = rw c.in-Yes.is at c.in_ok-take.ensures in
    reads_next c.args.characters.now c.args.number c.index-characters-number.result start (reading c.args.reader.now)
    (reading c.take.new.self) c.requires.number c.index-characters-number.is c.requires.reads taken.1

pub returns-in-Yes-clause-passes : goal.returns-in-Yes-clause-passes
returns-in-Yes-clause-passes c =
    let old = reading c.args.reader.now in
    let groups = length old.groups in
    let h = reaches c.args.characters.now c.args.number groups c.args.place old c.requires.number c.requires.reads
    c.requires.passes refl c.requires.place in
    let taken = rw c.in-Yes.is at c.in_ok-take.ensures in
    passes_more c.args.characters.now c.args.number groups c.args.place old h c.in_ok-refused.ensures
    c.index-characters-number.result c.index-characters-number.is taken.0

pub returns-in-No-clause-fault : goal.returns-in-No-clause-fault
returns-in-No-clause-fault c =
    let old = reading c.args.reader.now in
    let groups = length old.groups in
    let h = reaches c.args.characters.now c.args.number groups c.args.place old c.requires.number c.requires.reads
    c.requires.passes refl c.requires.place in
    syntax_caused c.args.characters.now c.args.number groups c.args.place old h c.in_ok-refused.ensures
    c.index-characters-number.result c.index-characters-number.is (rw c.in-No.is at c.in_ok-take.ensures)

pub returns-in-TooLarge-clause-fault : goal.returns-in-TooLarge-clause-fault
returns-in-TooLarge-clause-fault c =
    let old = reading c.args.reader.now in
    let groups = length old.groups in
    let h = reaches c.args.characters.now c.args.number groups c.args.place old c.requires.number c.requires.reads
    c.requires.passes refl c.requires.place in
    overcount_caused c.args.characters.now c.args.number groups c.args.place old h c.in_ok-refused.ensures
    c.index-characters-number.result c.index-characters-number.is (reading c.take.new.self) c.braces_place.result
    (rw c.in-TooLarge.is at c.in_ok-take.ensures) c.braces_place.ensures
