use Rattle.swc_loader.proofs.NodeLaws.{name_on_tree as law}
use Rattle.swc_loader.proofs.laws.name_on_tree.Goals as goal

pub returns : goal.returns
returns c = law
