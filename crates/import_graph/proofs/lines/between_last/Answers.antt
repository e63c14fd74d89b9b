use Rattle.std.proofs.Common.{◌+◌, ◌-◌, ◌∙◌, sym, ap, arith, length, take, drop, length-drop, Some}
use Rattle.std.specs.Prelude.{option_map}
use Rattle.std.proofs.lemmas.List.{take_all}
use Rattle.import_graph.proofs.Marks.{between-none, between-one, between-two}
use Rattle.import_graph.proofs.lines.between_last.Goals as goal

pub returns-in_err-closing : goal.returns-in_err-closing
returns-in_err-closing c =
    ap (option_map (λ x. x.now)) c.from_residual.ensures
    ∙ sym (between-none c.args.mark c.args.line.now c.in_err-closing.ensures)

pub returns-in_err-opening : goal.returns-in_err-opening
returns-in_err-opening c =
    ap (option_map (λ x. x.now)) c.from_residual-in_err-opening.ensures
    ∙ sym (between-one c.args.mark c.args.line.now c.in_ok-closing.closing
    c.in_ok-closing.ensures c.in_err-opening.ensures)

pub returns : goal.returns
returns c =
    let before = take c.in_ok-closing.closing c.args.line.now in
    let opening = c.in_ok-opening.opening in
    ap (λ t. Some t) (take_all (length before - (opening + 1)) (drop (opening + 1) before)
    (omega (arith, length-drop (opening + 1) before)))
    ∙ sym (between-two c.args.mark c.args.line.now c.in_ok-closing.closing opening
    c.in_ok-closing.ensures c.in_ok-opening.ensures)
