use Rattle.std.proofs.Common.{ap, ◌∙◌}
use Rattle.serde_json.specs.Written.{has_float}
use Rattle.report_core.proofs.Floats.{refused_without}
use Rattle.report_core.proofs.put_verdicts.put_refused.Goals as goal

pub put_value-requires : goal.put_value-requires
put_value-requires c = ap has_float c.in_ok-value.ensures ∙ refused_without c.args.refusal.now
