use Rattle.swc_loader.proofs.NodeLaws.{before_search_on_tree as law}
use Rattle.swc_loader.proofs.laws.before_search_on_tree.Goals as goal

pub returns : goal.returns
returns c = law
