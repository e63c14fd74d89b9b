use Rattle.trail_bundle.proofs.TrailLaws.{among_added, outcome_decided, verdict_decided}
use Rattle.trail_bundle.proofs.laws.added_trails_decide.Goals as goal

pub returns : goal.returns
returns c = record { added = among_added; outcome = outcome_decided; verdict = verdict_decided }
