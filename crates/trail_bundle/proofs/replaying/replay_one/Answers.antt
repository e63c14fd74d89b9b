use Rattle.trail_bundle.specs.Replaying.{request_plan}
use Rattle.trail_bundle.proofs.Replays.{held_replay}
use Rattle.trail_bundle.proofs.replaying.replay_one.Goals as goal

pub returns-in-Some : goal.returns-in-Some
returns-in-Some c =
    held_replay c.args.trail.now c.in-Ok.outcome c.in-Some.verdict (request_plan c.args.project.now c.args.request.now)
    c.in-Some.ensures c.in-Ok.ensures.settles c.in-Ok.ensures.agree
