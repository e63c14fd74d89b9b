use Rattle.sugar_path.proofs.StdPaths.{join-std}
use Rattle.sugar_path.proofs.laws.join_is_stds.Goals as goal

pub returns : goal.returns
returns c = join-std
