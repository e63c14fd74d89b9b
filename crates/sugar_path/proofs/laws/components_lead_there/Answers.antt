use Rattle.sugar_path.proofs.Pieces.{components-route}
use Rattle.sugar_path.proofs.laws.components_lead_there.Goals as goal

pub returns : goal.returns
returns c = components-route
