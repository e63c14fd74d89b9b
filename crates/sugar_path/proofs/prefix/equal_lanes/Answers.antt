use Rattle.std.proofs.Common.{drop, take, ◌∙◌}
use Rattle.std.proofs.lemmas.Simd.{length-chunk}
use Rattle.sugar_path.proofs.Lanes.{lanes-equal}
use Rattle.sugar_path.proofs.prefix.equal_lanes.Goals as goal

pub returns : goal.returns
returns c =
    c.min.ensures
    ∙ lanes-equal (take 32 (drop c.args.at c.args.left.now)) (take 32 (drop c.args.at c.args.right.now))
    (length-chunk c.args.at 32 c.args.left.now c.requires.left)
    (length-chunk c.args.at 32 c.args.right.now c.requires.right)
