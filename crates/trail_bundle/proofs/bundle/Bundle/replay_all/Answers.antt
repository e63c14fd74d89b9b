use Rattle.trail_bundle.specs.Steps.{steps_of}
use Rattle.trail_bundle.proofs.Replays.{never_refused}
use Rattle.trail_bundle.proofs.bundle.Bundle.replay_all.Goals as goal

pub returns-clause-whole : goal.returns-clause-whole
returns-clause-whole c = λ t agrees stand.
    never_refused c.replay_each.result (steps_of c.args.self.now.replies.entries) c.args.project.now
    c.args.self.now.requests.items
    (rw (c.in_ok-trail.ensures, c.as_slice.ensures.value) at c.replay_each.ensures.refused) t agrees stand
