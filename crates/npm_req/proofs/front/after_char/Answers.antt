use Rattle.std.proofs.lemmas.Str.Pattern.{strip_prefix_char}
use Rattle.npm_req.proofs.Ends.{after-strip_prefix}
use Rattle.npm_req.proofs.front.after_char.Goals as goal

pub returns-clause-value : goal.returns-clause-value
returns-clause-value c =
    after-strip_prefix c.args.c c.args.text.now c.strip_prefix.result
    (strip_prefix_char c.args.c c.args.text.now c.strip_prefix.result c.strip_prefix.ensures.cases c.requires)
