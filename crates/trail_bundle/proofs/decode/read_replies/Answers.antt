use Rattle.std.proofs.Common.{arith}
use Rattle.trail_bundle.specs.Parts.{LacksReply}
use Rattle.trail_bundle.specs.Steps.{steps_of}
use Rattle.trail_bundle.proofs.Decodings.{raised}
use Rattle.trail_bundle.proofs.LineCauses.{lacks_reply, one_longer, one_more_reply}
use Rattle.trail_bundle.proofs.decode.read_replies.Goals as goal

pub returns-in_err-read_reply-clause-lacks : goal.returns-in_err-read_reply-clause-lacks
returns-in_err-read_reply-clause-lacks c =
    raised (LacksReply c.args.count c.args.lines.now.number c.args.lines.now.rest.now) _ _ c.from_residual.ensures.1
    (lacks_reply c.args.count c.args.lines.now.number c.loop.counter _ c.args.lines.now.rest.now c.loop.lines.rest.now
    (steps_of c.loop.replies.entries) _
    c.loop.invariant.0 c.loop.invariant.1 c.loop.invariant.2 c.loop-test.true c.loop.invariant.3
    c.in_err-read_reply.ensures.lacks)

pub loop-preserved : goal.loop-preserved
loop-preserved c =
    let next = c.in_ok-read_reply.ensures.front in (
      one_more_reply _ _ _ _ _ c.loop.invariant.0 next,
      c.in_ok-read_reply.ensures.are,
      omega (arith, c.loop.invariant.2, one_longer _ _ _ _ next),
      omega (arith, c.loop.invariant.3, c.in_ok-read_reply.ensures.number),
    )
