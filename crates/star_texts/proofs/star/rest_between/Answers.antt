use Rattle.std.proofs.Common.{Some}
use Rattle.star_texts.proofs.Ends.{between-suffix, prefix_kept, suffix_kept}
use Rattle.star_texts.proofs.star.rest_between.Goals as goal

pub returns : goal.returns
returns c =
    between-suffix c.args.text.now c.args.before.now c.in_ok-strip_prefix.field-0.now c.args.behind.now
    c.strip_suffix.result
    (prefix_kept c.args.before.now c.args.text.now (Some c.in_ok-strip_prefix.field-0)
    c.in_ok-strip_prefix.ensures.cases)
    (suffix_kept c.args.behind.now c.in_ok-strip_prefix.field-0.now c.strip_suffix.result c.strip_suffix.ensures.cases)
