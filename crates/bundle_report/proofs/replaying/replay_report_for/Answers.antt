use Rattle.trail_bundle.specs.BundleView.{bundle_of}
use Rattle.bundle_report.proofs.Replayed.{fields_refused, replay_told, text_refused}
use Rattle.bundle_report.proofs.replaying.replay_report_for.Goals as goal

pub returns-in_err-settings : goal.returns-in_err-settings
returns-in_err-settings c = fields_refused _ _ _ _ c.from_residual.ensures.1 c.in_err-settings.ensures

pub returns-in_err-bundle : goal.returns-in_err-bundle
returns-in_err-bundle c =
    text_refused _ _ _ c.args.bytes.now c.in_ok-settings.field-0 c.from_residual-in_err-bundle.ensures.1
    c.in_ok-settings.ensures c.in_err-bundle.ensures.wrong

pub returns : goal.returns
returns c =
    replay_told _ c.args.bytes.now c.in_ok-settings.field-0 (bundle_of c.in_ok-bundle.bundle) c.in_ok-settings.ensures
    c.in_ok-bundle.ensures.valid c.in_ok-bundle.ensures.ok c.lines_by.ensures
