use Rattle.sugar_path.proofs.Agreed.{place-clean}
use Rattle.sugar_path.proofs.laws.place_is_clean.Goals as goal

pub returns : goal.returns
returns c = place-clean
