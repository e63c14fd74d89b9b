use Rattle.swc_loader.proofs.Searches.{place_without_entry_on_tree as law}
use Rattle.swc_loader.proofs.laws.place_without_entry_on_tree.Goals as goal

pub returns : goal.returns
returns c = law
