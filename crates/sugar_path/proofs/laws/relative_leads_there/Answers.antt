use Rattle.sugar_path.proofs.Journeys.{relative-leads}
use Rattle.sugar_path.proofs.laws.relative_leads_there.Goals as goal

pub returns : goal.returns
returns c = relative-leads
