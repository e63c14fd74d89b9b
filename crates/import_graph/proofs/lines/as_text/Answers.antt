use Rattle.std.proofs.Common.{◌∙◌, sym, ap}
use Rattle.std.specs.Prelude.{Some}
use Rattle.import_graph.proofs.Texts.{as_text-is, as_text-none}
use Rattle.import_graph.proofs.lines.as_text.Goals as goal

pub returns-in-Ok : goal.returns-in-Ok
returns-in-Ok c = ap (λ t. Some t) c.in-Ok.ensures.cases.0 ∙ sym (as_text-is c.args.bytes.now c.in-Ok.ensures.cases.1)

pub returns-in-Err : goal.returns-in-Err
returns-in-Err c = sym (as_text-none c.args.bytes.now c.in-Err.ensures.cases.0)
