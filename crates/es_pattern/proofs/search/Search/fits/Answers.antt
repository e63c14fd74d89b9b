use Rattle.std.proofs.Common.{◌≡◌, ◌<◌, arith}
use Rattle.std.specs.Prelude.{slice_get, Some}
use Rattle.std.proofs.lemmas.Option.{gets}
use Rattle.std.proofs.lemmas.Grind.{common_steps}
use Rattle.es_pattern.proofs.search.Search.fits.Goals as goal

pub returns-in-Some : goal.returns-in-Some
returns-in-Some c =
    let stands : slice_get c.args.self.now.program.now.classes.items c.args.number ≡ Some c.in-Some.class.now =
    grind (arith, common_steps, gets) in
    let lt : c.args.c < 128 = grind (arith, common_steps) in
    let told = c.requires.classed c.args.c c.in-Some.class.now stands lt in
    grind (arith, common_steps, gets, told)
