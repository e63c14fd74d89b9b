use Rattle.sugar_path.proofs.StdPaths.{components-std}
use Rattle.sugar_path.proofs.laws.components_are_stds.Goals as goal

pub returns : goal.returns
returns c = components-std
