use Rattle.swc_loader.proofs.Locations.{located_on_tree as law}
use Rattle.swc_loader.proofs.laws.located_on_tree.Goals as goal

pub returns : goal.returns
returns c = law
