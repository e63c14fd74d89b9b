use Rattle.trail_bundle.proofs.LineCauses.{no_counts-other, no_counts-unended}
use Rattle.trail_bundle.proofs.decode.read_counts.Goals as goal

pub returns-in_default-clause-lacks : goal.returns-in_default-clause-lacks
returns-in_default-clause-lacks c =
    (c.number-number.ensures, no_counts-unended c.args.lines.now.rest.now c.in_default.ensures.last)

pub returns-in-None-clause-lacks : goal.returns-in-None-clause-lacks
returns-in-None-clause-lacks c = (
  c.number-number.ensures,
  no_counts-other c.in-Some.line.now c.args.lines.now.rest.now _ c.in-Some.ensures.rest c.in-Some.ensures.line
      c.in-None.ensures.none,
)
