use Rattle.yarn_lock_parser.proofs.ItemLaws.{last_item-counts}
use Rattle.yarn_lock_parser.proofs.laws.last_item_counts.Goals as goal

pub returns : goal.returns
returns c = last_item-counts
