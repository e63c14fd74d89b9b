use Rattle.std.proofs.Common.{ap, ◌∙◌}
use Rattle.serde_json.specs.Written.{compact_text, has_float}
use Rattle.trail_texts.proofs.WithoutFloats.{step_without}
use Rattle.trail_bundle.specs.BundleText.{reply_line}
use Rattle.trail_bundle.proofs.written.line_of_step.Goals as goal

pub returns : goal.returns
unfolding reply_line
returns c =
    let same = c.in_ok-value.ensures in
    c.in_ok-line.ensures.text (ap has_float same ∙ step_without (c.args.question.now, c.args.reply.now))
    ∙ ap compact_text same
