use Rattle.swc_loader.proofs.WalkLaws.{walk_on_tree as law}
use Rattle.swc_loader.proofs.laws.walk_on_tree.Goals as goal

pub returns : goal.returns
returns c = law
