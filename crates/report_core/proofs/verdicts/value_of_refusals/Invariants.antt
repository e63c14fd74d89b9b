use Rattle.std.proofs.Common.{◌≡◌, take}
use Rattle.std.specs.Prelude.{map}
use Rattle.serde_json.specs.View.{view}
use Rattle.report_core.specs.Verdicts.{refusal_value}
use Rattle.report_core.proofs.verdicts.value_of_refusals.Given as goal

-- the values so far are those of the refusals so far
abbrev pub invariant-loop-refusal : goal.invariant-loop-refusal
invariant-loop-refusal l = map view l.values.items ≡ map refusal_value (take l.refusal-index l.refusals)
