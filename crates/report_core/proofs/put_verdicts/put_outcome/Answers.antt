use Rattle.std.proofs.Common.{ap, ◌∙◌}
use Rattle.serde_json.specs.Written.{has_float}
use Rattle.report_core.proofs.Floats.{steps_without}
use Rattle.report_core.proofs.put_verdicts.put_outcome.Goals as goal

pub put_value-requires : goal.put_value-requires
put_value-requires c = ap has_float c.in_ok-trail.ensures ∙ steps_without c.args.outcome.now.trail
