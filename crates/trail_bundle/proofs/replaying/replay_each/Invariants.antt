use Rattle.std.proofs.Common.{drop}
use Rattle.trail_bundle.proofs.Replays.{Replayed}
use Rattle.trail_bundle.proofs.replaying.replay_each.Given as goal

-- the requests so far were replayed
abbrev pub invariant-loop-request : goal.invariant-loop-request
invariant-loop-request l =
    Replayed l.verdicts.items l.trail l.project l.requests (drop l.request-index l.requests)
