use Rattle.std.proofs.Common.{ap, ◌∙◌}
use Rattle.serde_json.specs.Written.{compact_text, has_float}
use Rattle.trail_texts.specs.TrailTexts.{request_value}
use Rattle.trail_texts.proofs.WithoutFloats.{request_without}
use Rattle.trail_bundle.specs.BundleText.{request_line}
use Rattle.trail_bundle.proofs.written.line_of_request.Goals as goal

pub returns : goal.returns
unfolding request_line
returns c =
    let r = c.args.request.now in
    let same = c.in_ok-value.ensures ∙ ap (request_value r.importer) c.as_str.ensures in
    c.in_ok-line.ensures.text (ap has_float same ∙ request_without r.importer r.specifier) ∙ ap compact_text same
