use Rattle.swc_loader.proofs.BrowserLaws.{rules_on_tree as law}
use Rattle.swc_loader.proofs.laws.rules_on_tree.Goals as goal

pub returns : goal.returns
returns c = law
