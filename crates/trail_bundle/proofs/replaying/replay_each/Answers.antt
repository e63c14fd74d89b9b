use Rattle.std.proofs.Common.{arith}
use Rattle.trail_bundle.proofs.Replays.{all_replayed, next_item, none_left, not_replayed, pushed, refused_so}
use Rattle.trail_bundle.proofs.replaying.replay_each.Goals as goal

pub returns-in_err-numbered-clause-refused : goal.returns-in_err-numbered-clause-refused
returns-in_err-numbered-clause-refused c =
    let next = next_item c.args.requests.now c.loop-request.request-index c.request-item.result c.loop-request-test.true
    c.request-item.is in
    refused_so c.from_residual.result _ c.args.trail.now c.args.project.now c.args.requests.now
    c.from_residual.ensures.1
    (not_replayed c.loop-request.verdicts.items c.args.trail.now c.args.project.now c.args.requests.now _ _
    c.request-item.result c.len.result c.replay_one-replayed.result _
    c.loop-request.invariant next (omega (arith, c.len.ensures, c.loop-request.verdicts.ok))
    c.replay_one-replayed.ensures c.in_err-numbered.ensures)

pub loop-request-preserved : goal.loop-request-preserved
loop-request-preserved c =
    let next = next_item c.args.requests.now c.loop-request.request-index c.request-item.result c.loop-request-test.true
    c.request-item.is in
    pushed c.loop-request.verdicts.items c.push.new.self.items c.in_ok-numbered.field-0 c.args.trail.now
    c.args.project.now c.args.requests.now _ _ c.request-item.result c.len.result c.replay_one-replayed.result
    c.loop-request.invariant next c.replay_one-replayed.ensures c.in_ok-numbered.ensures c.in_ok-push.ensures.items

pub returns-clause-ok : goal.returns-clause-ok
returns-clause-ok c =
    all_replayed c.loop-request.verdicts.items c.args.trail.now c.args.project.now c.args.requests.now _
    c.loop-request.invariant (none_left c.args.requests.now c.loop-request.request-index c.loop-request-test.false)
