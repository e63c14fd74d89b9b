use Rattle.trail_bundle.proofs.LineCauses.{counts_apart}
use Rattle.trail_bundle.proofs.decode.counts_in.Goals as goal

pub returns-in-Some-clause-none : goal.returns-in-Some-clause-none
returns-in-Some-clause-none c =
    counts_apart c.args.text.now c.in-Some.requests.now c.in-Some.replies.now c.counts_of.result c.in-Some.ensures.parts
    c.in-Some.ensures.front c.counts_of.ensures.none
