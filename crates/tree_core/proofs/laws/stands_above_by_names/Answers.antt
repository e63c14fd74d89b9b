use Rattle.tree_core.proofs.NamesAbove.{names-above}
use Rattle.tree_core.proofs.laws.stands_above_by_names.Goals as goal

pub returns : goal.returns
returns c = record { names = names-above }
