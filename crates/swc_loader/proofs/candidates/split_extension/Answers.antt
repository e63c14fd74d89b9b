use Rattle.std.proofs.Common.{◌∙◌, arith}
use Rattle.std.proofs.lemmas.Str.Pattern.{rfind_char}
use Rattle.swc_loader.proofs.Naming.{stem_is, extension_is, has_extension-dot, has_extension-none}
use Rattle.swc_loader.proofs.candidates.split_extension.Goals as goal
use Rattle.swc_loader.proofs.candidates.split_extension.Goals.{
  in_default-via-in-Some+else-dot-gt0,
  in_default-via-in_default,
}

pub returns-in-Some : goal.returns-in-Some
returns-in-Some c =
    let dot = rw c.in-Some.is at (rfind_char 46 c.args.name.now c.rfind.result c.rfind.ensures.cases (omega arith)) in (
      has_extension-dot c.args.name.now c.in-Some.dot c.if-dot-gt0.true dot.0 dot.1,
      c.range.ensures.value
          ∙ stem_is c.args.name.now c.in-Some.dot dot.0 dot.1 dot.2,
      c.range_from.ensures.value
          ∙ extension_is c.args.name.now c.in-Some.dot dot.0 dot.1 dot.2,
    )

pub returns-in_default : goal.returns-in_default
returns-in_default c = elim c.in_default.branch [
  | in_default-via-in-Some+else-dot-gt0 w ↦
      let dot = rw w.in-Some.is at (rfind_char 46 c.args.name.now c.rfind.result c.rfind.ensures.cases (omega arith)) in
      has_extension-none c.args.name.now (λ i pos lt. dot.2 i (omega arith) lt)
  | in_default-via-in_default w ↦
      let none =
      rw w.in_default.is at (rfind_char 46 c.args.name.now c.rfind.result c.rfind.ensures.cases (omega arith)) in
      has_extension-none c.args.name.now (λ i pos lt. none i lt)
]
