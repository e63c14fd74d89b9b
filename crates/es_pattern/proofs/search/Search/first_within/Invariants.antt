use Rattle.std.proofs.Common.{◌≡◌, ◌≤◌, ◌<◌, ◌+◌, ℕ, Bool, Some}
use Rattle.std.specs.Prelude.{slice_get}
use Rattle.es_pattern.specs.declared.piece.Piece.TheVariants.{Lookahead}
use Rattle.es_pattern.specs.declared.step.Direction.TheVariants.{Backward}
use Rattle.es_pattern.specs.declared.step.Step.TheVariants.{Pass}
use Rattle.es_pattern.specs.Compiled.{part_steps}
use Rattle.es_pattern.proofs.search.Search.first_within.Given as goal

abbrev pub invariant-loop-passed : goal.invariant-loop-passed
invariant-loop-passed l = record {
  before : l.first ≤ l.number;
  all : (k at inner : ℕ) (negated : Bool) → l.first ≤ k → k ≤ l.number → l.number < k + l.passed
      → slice_get l.self.pieces.now k ≡ Some (Lookahead negated)
      → slice_get (part_steps Backward l.self.pieces.now k) at ≡ Some (Pass inner) → l.first ≤ inner;
}
