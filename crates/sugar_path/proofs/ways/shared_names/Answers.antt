use Rattle.std.proofs.Common.{◌∙◌, bytes_eq, rules, ap, List, ℕ, Bor}
use Rattle.std.specs.List.{zip}
use Rattle.std.specs.Slice.Iter.{iter_rest}
use Rattle.std.proofs.lemmas.Iterator.{YieldsList-from_slice, YieldsList-from_zip}
use Rattle.std.proofs.lemmas.Iterator.Consumers.{YieldsList-at, count_from_yields_List}
use Rattle.std.proofs.lemmas.Iterator.Search.{YieldsList-from_take_while}
use Rattle.std.proofs.lemmas.List.Folds.{length-prefix_len}
use Rattle.sugar_path.proofs.NameWays.{shared-texts}
use Rattle.sugar_path.proofs.WayParts.{prefix_len-zip}
use Rattle.sugar_path.proofs.ways.shared_names.Goals as goal

pub returns-clause-shared : goal.returns-clause-shared
returns-clause-shared c =
    count_from_yields_List _ c.count.result c.count.ensures.ran
    (YieldsList-from_take_while _ (λ p. bytes_eq p.0.now p.1.now)
    (YieldsList-at c.take_while.ensures.source (YieldsList-from_zip
    (YieldsList-from_slice c.args.target.now (ap iter_rest c.zip.ensures.first ∙ c.iter.ensures.rest))
    (YieldsList-from_slice c.args.base.now c.zip.ensures.second.0)))
    c.take_while.ensures.closure c.take_while.ensures.done (λ x b q k. search rules))
    ∙ length-prefix_len (λ (p : Bor (List ℕ) × Bor (List ℕ)). bytes_eq p.0.now p.1.now)
    (zip c.args.target.now c.args.base.now)
    ∙ prefix_len-zip (λ (a b : Bor (List ℕ)). bytes_eq a.now b.now) c.args.target.now c.args.base.now
    ∙ shared-texts c.args.target.now c.args.base.now
