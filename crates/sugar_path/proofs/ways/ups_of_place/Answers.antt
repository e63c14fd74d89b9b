use Rattle.std.proofs.Common.{◌==◌, ◌∙◌, rules}
use Rattle.std.proofs.lemmas.Iterator.Consumers.{YieldsList-at, count_from_yields_List}
use Rattle.std.proofs.lemmas.Iterator.Search.{YieldsList-from_take_while}
use Rattle.std.proofs.lemmas.Iterator.Splits.{YieldsList-from_slice_split}
use Rattle.std.proofs.lemmas.List.Folds.{length-prefix_len}
use Rattle.sugar_path.specs.Path.{parts}
use Rattle.sugar_path.proofs.PlaceParts.{is_dots, ups-told}
use Rattle.sugar_path.proofs.ways.ups_of_place.Goals as goal

pub returns : goal.returns
returns c = λ r h.
    count_from_yields_List _ c.count.result c.count.ensures.ran
    (YieldsList-from_take_while _ is_dots
    (YieldsList-at c.take_while.ensures.source
    (YieldsList-from_slice_split _ (λ b. b == 47) c.args.place.now c.split.ensures.rest c.split.ensures.done
    c.split.ensures.closure (λ x b q k. search rules)))
    c.take_while.ensures.closure c.take_while.ensures.done (λ x b q k. search rules))
    ∙ length-prefix_len is_dots (parts c.args.place.now) ∙ ups-told r c.args.place.now h
