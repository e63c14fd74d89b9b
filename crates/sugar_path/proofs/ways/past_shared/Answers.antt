use Rattle.std.proofs.Common.{◌∙◌, refl}
use Rattle.sugar_path.proofs.RouteTexts.{told-same}
use Rattle.sugar_path.proofs.SharedTexts.{between-step}
use Rattle.sugar_path.proofs.ways.past_shared.Goals as goal

pub loop-left-preserved : goal.loop-left-preserved
loop-left-preserved c =
    let same = told-same c.split_first_part.result.0.now c.split_first_part-in-Some-Some.result.0.now
    c.split_first_part-in-Some-Some.result.0.now c.ne.result c.ne.ensures c.if-ne.false refl in
    between-step c.loop-left.left c.loop-left.rest c.in-Some-Some.from c.in-Some-Some.to _ _ _ _ c.in-Some-Some.is-0
    c.in-Some-Some.is-1 c.split_first_part.ensures c.split_first_part-in-Some-Some.ensures same
    ∙ c.loop-left.invariant
