use Rattle.sugar_path.proofs.StdParents.{parent-std}
use Rattle.sugar_path.proofs.laws.parent_is_stds.Goals as goal

pub returns : goal.returns
returns c = parent-std
