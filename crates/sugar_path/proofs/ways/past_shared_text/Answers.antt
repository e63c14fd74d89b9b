use Rattle.sugar_path.proofs.SharedTexts.{way-slices}
use Rattle.sugar_path.proofs.ways.past_shared_text.Goals as goal

pub returns-in-Some : goal.returns-in-Some
returns-in-Some c = way-slices c.args.base.now c.args.target.now c.in-Some.slash c.in-Some.ensures
