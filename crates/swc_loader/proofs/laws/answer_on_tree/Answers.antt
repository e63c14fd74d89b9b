use Rattle.swc_loader.proofs.NodeLaws.{answer_on_tree as law}
use Rattle.swc_loader.proofs.laws.answer_on_tree.Goals as goal

pub returns : goal.returns
returns c = law
