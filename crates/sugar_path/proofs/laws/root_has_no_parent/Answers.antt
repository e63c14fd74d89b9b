use Rattle.sugar_path.proofs.Pieces.{parent-none_but_root}
use Rattle.sugar_path.proofs.laws.root_has_no_parent.Goals as goal

pub returns : goal.returns
returns c = parent-none_but_root
