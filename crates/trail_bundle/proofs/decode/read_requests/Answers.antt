use Rattle.trail_bundle.specs.Parts.{LacksRequest}
use Rattle.trail_bundle.proofs.Decodings.{raised}
use Rattle.trail_bundle.proofs.LineCauses.{lacks_request}
use Rattle.trail_bundle.proofs.decode.read_requests.Goals as goal

pub returns-in_err-read_request-clause-lacks : goal.returns-in_err-read_request-clause-lacks
returns-in_err-read_request-clause-lacks c =
    raised (LacksRequest c.args.count c.args.lines.now.number c.args.lines.now.rest.now) _ _ c.from_residual.ensures.1
    (lacks_request c.args.count c.args.lines.now.number c.loop.counter _ c.args.lines.now.rest.now c.loop.lines.rest.now
    c.loop.requests.items _
    c.loop.invariant.0 c.loop.invariant.1 c.loop-test.true c.loop.invariant.2 c.in_err-read_request.ensures.lacks)
