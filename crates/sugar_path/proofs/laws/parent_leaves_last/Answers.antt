use Rattle.sugar_path.proofs.Pieces.{parent-leaves}
use Rattle.sugar_path.proofs.laws.parent_leaves_last.Goals as goal

pub returns : goal.returns
returns c = parent-leaves
