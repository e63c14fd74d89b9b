use Rattle.std.proofs.Common.{◌≡◌, ◌-◌, ◌∙◌, ap, rules, length, drop, arith, length-drop}
use Rattle.std.specs.List.{prefix_len}
use Rattle.std.proofs.lemmas.Iterator.{YieldsList-from_slice}
use Rattle.std.proofs.lemmas.Iterator.Consumers.{YieldsList-at, count_from_yields_List}
use Rattle.std.proofs.lemmas.Iterator.Search.{YieldsList-from_take_while}
use Rattle.std.proofs.lemmas.List.{take_all}
use Rattle.std.proofs.lemmas.List.Folds.{length-prefix_len}
use Rattle.import_graph.specs.Lines.{is_blank}
use Rattle.import_graph.proofs.lines.past_blanks.Goals as goal

pub returns : goal.returns
returns c =
    let line = c.args.line.now in
    let blanks : c.count-blanks.result ≡ prefix_len is_blank line =
    count_from_yields_List c.take_while.result c.count-blanks.result c.count-blanks.ensures.ran
    (YieldsList-from_take_while _ is_blank
    (YieldsList-at c.take_while.ensures.source (YieldsList-from_slice line c.iter.ensures.rest))
    c.take_while.ensures.closure c.take_while.ensures.done (λ x b q k. search rules))
    ∙ length-prefix_len is_blank line in
    take_all (length line - c.count-blanks.result) (drop c.count-blanks.result line)
    (omega (arith, length-drop c.count-blanks.result line))
    ∙ ap (λ n. drop n line) blanks
