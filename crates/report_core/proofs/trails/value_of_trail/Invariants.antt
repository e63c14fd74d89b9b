use Rattle.std.proofs.Common.{◌≡◌, ◌++◌}
use Rattle.std.specs.Prelude.{map}
use Rattle.std.specs.Slice.Iter.{iter_rest}
use Rattle.serde_json.specs.View.{view}
use Rattle.trail_texts.specs.TrailTexts.{step_value}
use Rattle.report_core.proofs.trails.value_of_trail.Given as goal

-- the values so far stand in front of those of the questions that are left
abbrev pub invariant-loop-step : goal.invariant-loop-step
invariant-loop-step l = map step_value l.trail ≡ map view l.values.items ++ map step_value (iter_rest l.step-iterator)
