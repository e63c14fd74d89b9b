use Rattle.sugar_path.proofs.Words.{after-strip_prefix}
use Rattle.sugar_path.proofs.front.after.Goals as goal

pub returns : goal.returns
returns c = after-strip_prefix c.args.word.now c.args.text.now c.strip_prefix.result c.strip_prefix.ensures.cases
