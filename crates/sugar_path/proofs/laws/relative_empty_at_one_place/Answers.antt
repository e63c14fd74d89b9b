use Rattle.sugar_path.proofs.Journeys.{relative-empty}
use Rattle.sugar_path.proofs.laws.relative_empty_at_one_place.Goals as goal

pub returns : goal.returns
returns c = relative-empty
