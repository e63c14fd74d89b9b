use Rattle.trail_bundle.proofs.Wrong.{one_text}
use Rattle.trail_bundle.proofs.laws.one_text_for_each_bundle.Goals as goal

pub returns : goal.returns
returns c = record { one = one_text }
