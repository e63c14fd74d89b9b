use Rattle.std.proofs.Common.{◌≡◌, ◌≤◌, ◌<◌, ℕ, Some}
use Rattle.std.specs.Prelude.{slice_get}
use Rattle.es_pattern.specs.declared.step.Step.TheVariants.{Pass}
use Rattle.es_pattern.proofs.search.first_passed.Given as goal

abbrev pub invariant-loop-step : goal.invariant-loop-step
invariant-loop-step l = record {
  before : l.least ≤ l.first;
  all : (at number : ℕ) → at < l.step-index → slice_get l.steps at ≡ Some (Pass number) → l.least ≤ number;
}
