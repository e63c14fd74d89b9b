use Rattle.std.proofs.Common.{◌∙◌, arith}
use Rattle.std.proofs.lemmas.Str.Pattern.{rfind_char}
use Rattle.resolver_core.proofs.TextParts.{last_part-none, last_part-some}
use Rattle.resolver_core.proofs.texts.last_part.Goals as goal

pub returns-in-Some : goal.returns-in-Some
returns-in-Some c =
    let slash = rw c.in-Some.is at (rfind_char 47 c.args.text.now c.rfind.result c.rfind.ensures.cases (omega arith)) in
    c.range_from.ensures.value ∙ last_part-some c.args.text.now c.in-Some.at slash.0 slash.1 slash.2

pub returns-in-None : goal.returns-in-None
returns-in-None c =
    let none = rw c.in-None.is at (rfind_char 47 c.args.text.now c.rfind.result c.rfind.ensures.cases (omega arith)) in
    last_part-none c.args.text.now none
