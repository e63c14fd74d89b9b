use Rattle.swc_loader.proofs.Searches.{folder_on_tree as law}
use Rattle.swc_loader.proofs.laws.folder_on_tree.Goals as goal

pub returns : goal.returns
returns c = law
