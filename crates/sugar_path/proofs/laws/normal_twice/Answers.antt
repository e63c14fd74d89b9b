use Rattle.sugar_path.proofs.Twice.{normal-normal}
use Rattle.sugar_path.proofs.laws.normal_twice.Goals as goal

pub returns : goal.returns
returns c = normal-normal
