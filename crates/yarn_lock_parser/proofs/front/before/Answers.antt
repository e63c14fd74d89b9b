use Rattle.sugar_path.proofs.Words.{before-strip_suffix}
use Rattle.yarn_lock_parser.proofs.front.before.Goals as goal

pub returns : goal.returns
returns c = before-strip_suffix c.args.word.now c.args.text.now c.strip_suffix.result c.strip_suffix.ensures.cases
