use Rattle.std.proofs.Common.{◌≡◌, ◌<◌, ◌≤◌, ◌+◌, ◌-◌, ℕ, Bool, ◌⊎◌, inl, inr, subst, sym, arith}
use Rattle.std.specs.Prelude.{slice_get, Some}
use Rattle.es_pattern.specs.declared.piece.Piece.TheVariants.{Lookahead}
use Rattle.es_pattern.specs.declared.step.Step.TheVariants.{Pass}
use Rattle.es_pattern.specs.declared.step.Direction.TheVariants.{Backward}
use Rattle.es_pattern.specs.Compiled.{part_steps}
use Rattle.es_pattern.proofs.NumberTests.{lt_or_same, lt_or_le}
use Rattle.es_pattern.proofs.search.Search.first_within.Goals as goal

pub loop-passed-preserved : goal.loop-passed-preserved
loop-passed-preserved c = record {
  before = omega (arith, c.first_below-first.ensures.before, c.loop-passed.invariant.before);
  all = λ k at asked negated low le further stands passes. by_order k at asked negated low le further stands passes
      (lt_or_same (c.args.number - c.loop-passed.passed) k (omega (arith, further)));
}
  where
    by_order : (k at asked : ℕ) (negated : Bool) → c.first_below-first.result ≤ k → k ≤ c.args.number
        → c.args.number < k + (c.loop-passed.passed + 1)
        → slice_get c.args.self.now.pieces.now k ≡ Some (Lookahead negated)
        → slice_get (part_steps Backward c.args.self.now.pieces.now k) at ≡ Some (Pass asked)
        → (c.args.number - c.loop-passed.passed < k) ⊎ (c.args.number - c.loop-passed.passed ≡ k)
        → c.first_below-first.result ≤ asked
    by_order k at asked negated low le further stands passes (inl later) =
        let kept = c.loop-passed.invariant.all k at asked negated
        (reached (lt_or_le (c.args.number - c.loop-passed.passed) c.loop-passed.first)) le (omega (arith, later))
        stands passes in
        omega (arith, kept, c.first_below-first.ensures.before)
      where
        reached : (c.args.number - c.loop-passed.passed < c.loop-passed.first)
            ⊎ (c.loop-passed.first ≤ c.args.number - c.loop-passed.passed) → c.loop-passed.first ≤ k
        reached (inl outside) = omega (arith, low, c.first_below-first.ensures.outside outside)
        reached (inr inside) = omega (arith, inside, later)
    by_order k at asked negated low le further stands passes (inr here) =
        c.first_below-first.ensures.least (inside (lt_or_le (c.args.number - c.loop-passed.passed) c.loop-passed.first))
        at asked negated (subst (λ (n : ℕ). slice_get c.args.self.now.pieces.now n ≡ Some (Lookahead negated))
        (sym here) stands)
        (subst (λ (n : ℕ). slice_get (part_steps Backward c.args.self.now.pieces.now n) at ≡ Some (Pass asked))
        (sym here) passes)
      where
        inside : (c.args.number - c.loop-passed.passed < c.loop-passed.first)
            ⊎ (c.loop-passed.first ≤ c.args.number - c.loop-passed.passed)
            → c.loop-passed.first ≤ c.args.number - c.loop-passed.passed
        inside (inl outside) = absurd (omega (arith, low, here, outside, c.first_below-first.ensures.outside outside))
        inside (inr within) = within
