use Rattle.std.proofs.Common.{lit<}
use Rattle.trail_bundle.proofs.Splits.{lacks-front, lacks-whole}
use Rattle.trail_bundle.proofs.text_lines.parts_at_end.Goals as goal

pub returns-clause-line : goal.returns-clause-line
returns-clause-line c =
    lacks-front 10 c.args.text.now c.split_once.result (c.split_once.ensures.byte (lit< tt) (λ w o h. h))

pub returns-clause-none : goal.returns-clause-none
returns-clause-none c =
    lacks-whole 10 c.args.text.now c.split_once.result (c.split_once.ensures.byte (lit< tt) (λ w o h. h))
