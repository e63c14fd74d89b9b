use Rattle.trail_bundle.proofs.LineCauses.{no_request-other, no_request-unended}
use Rattle.trail_bundle.proofs.decode.read_request.Goals as goal

pub returns-in_default-clause-lacks : goal.returns-in_default-clause-lacks
returns-in_default-clause-lacks c =
    (c.number-number.ensures, no_request-unended c.args.lines.now.rest.now c.in_default.ensures.last)

pub returns-in-None-clause-lacks : goal.returns-in-None-clause-lacks
returns-in-None-clause-lacks c = (
  c.number-number.ensures,
  no_request-other c.in-Some.line.now c.args.lines.now.rest.now _ c.in-Some.ensures.rest c.in-Some.ensures.line
      (rw c.in-None.is at c.in_ok-request.ensures.none),
)
