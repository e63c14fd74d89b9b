use Rattle.std.proofs.Common.{◌==◌, ◌∙◌, nat_eq, rules, ap, ℕ}
use Rattle.std.specs.List.{zip}
use Rattle.std.specs.Slice.Iter.{iter_rest}
use Rattle.std.proofs.lemmas.Iterator.{YieldsList-from_slice, YieldsList-from_zip}
use Rattle.std.proofs.lemmas.Iterator.Consumers.{YieldsList-at, count_from_yields_List}
use Rattle.std.proofs.lemmas.Iterator.Search.{YieldsList-from_take_while}
use Rattle.std.proofs.lemmas.List.Folds.{length-prefix_len}
use Rattle.sugar_path.proofs.WayParts.{prefix_len-zip}
use Rattle.sugar_path.proofs.prefix.equal_bytes.Goals as goal

pub returns : goal.returns
returns c =
    count_from_yields_List _ c.count.result c.count.ensures.ran
    (YieldsList-from_take_while _ (λ p. p.0 == p.1)
    (YieldsList-at c.take_while.ensures.source (YieldsList-from_zip
    (YieldsList-from_slice c.args.left.now (ap iter_rest c.zip.ensures.first ∙ c.iter.ensures.rest))
    (YieldsList-from_slice c.args.right.now c.zip.ensures.second.0)))
    c.take_while.ensures.closure c.take_while.ensures.done (λ x b q k. search rules))
    ∙ length-prefix_len (λ (p : ℕ × ℕ). p.0 == p.1) (zip c.args.left.now c.args.right.now)
    ∙ prefix_len-zip nat_eq c.args.left.now c.args.right.now
