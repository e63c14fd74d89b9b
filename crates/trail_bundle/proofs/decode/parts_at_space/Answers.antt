use Rattle.std.proofs.Common.{lit<}
use Rattle.trail_bundle.proofs.Splits.{lacks-front, lacks-whole}
use Rattle.trail_bundle.proofs.decode.parts_at_space.Goals as goal

pub returns-clause-front : goal.returns-clause-front
returns-clause-front c =
    lacks-front 32 c.args.text.now c.split_once.result (c.split_once.ensures.byte (lit< tt) (λ w o h. h))

pub returns-clause-none : goal.returns-clause-none
returns-clause-none c =
    lacks-whole 32 c.args.text.now c.split_once.result (c.split_once.ensures.byte (lit< tt) (λ w o h. h))
