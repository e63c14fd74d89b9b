use Rattle.std.proofs.Common.{◌∙◌}
use Rattle.trail_bundle.proofs.CountLines.{counts-written}
use Rattle.trail_bundle.proofs.encode.line_of_counts.Goals as goal

pub returns : goal.returns
returns c =
    c.in_ok-line.ensures ∙ counts-written c.args.requests c.args.replies c.ranges.requests.fits c.ranges.replies.fits
