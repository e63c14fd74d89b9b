use Rattle.std.proofs.Common.{◌≡◌, ◌<◌, ℕ, Bool, ◌⊎◌, inl, inr, subst, sym, arith}
use Rattle.std.specs.Prelude.{slice_get, Some}
use Rattle.std.proofs.lemmas.Option.{slice_get_within}
use Rattle.es_pattern.specs.declared.piece.Piece.TheVariants.{Lookahead}
use Rattle.es_pattern.specs.declared.step.Direction.TheVariants.{Backward}
use Rattle.es_pattern.specs.Passing.{IsTold}
use Rattle.es_pattern.specs.Compiled.{part_steps}
use Rattle.es_pattern.proofs.Compiling.{first_passes, below_at}
use Rattle.es_pattern.proofs.Searching.{told_unasked, fewer_untold}
use Rattle.es_pattern.proofs.NumberTests.{lt_or_same}
use Rattle.es_pattern.proofs.search.Search.tell.Goals as goal

pub first_within-first-requires-clause-stands : goal.first_within-first-requires-clause-stands
first_within-first-requires-clause-stands g c =
    slice_get_within c.args.self.now.pieces.now c.args.number (Lookahead c.requires.untold.negated)
    c.requires.untold.stands

pub tell_one-requires-clause-ready : goal.tell_one-requires-clause-ready
tell_one-requires-clause-ready g c = λ negated at k asked.
    let pieces = c.args.self.now.pieces.now in
    let inner = c.loop-inner.inner in
    let within = slice_get_within pieces inner (Lookahead negated) at in
    let below = below_at (part_steps Backward pieces inner) inner asked.at k
    (first_passes Backward pieces c.args.self.now.text.now 0 inner (omega (arith, within))) asked.passes in
    let low = c.first_within-first.ensures.all inner asked.at k negated (omega arith) (omega arith) at asked.passes in
    told_unasked pieces c.loop-inner.tables.items k (c.loop-inner.invariant.done k asked.untold.negated low below
    asked.untold.stands) asked.untold

pub loop-inner-preserved : goal.loop-inner-preserved
loop-inner-preserved g c = record {
  told = c.in_ok-tell_one.ensures.told;
  done = λ k negated low lt at. by_order k negated at (lt_or_same k c.loop-inner.inner (omega (arith, lt))) low;
  turned = omega (arith, c.loop-inner.invariant.turned, c.in_ok-tell_one.ensures.turns);
  kept = λ k h. c.tell_one.ensures.kept k (c.loop-inner.invariant.kept k h);
}
  where
    by_order : (k : ℕ) (negated : Bool) → slice_get c.args.self.now.pieces.now k ≡ Some (Lookahead negated)
        → (k < c.loop-inner.inner) ⊎ (k ≡ c.loop-inner.inner) → Prim.Native.Nat.◌≤◌ c.first_within-first.result k
        → IsTold c.tell_one.new.tables.items k
    by_order k negated at (inl lt) low = c.tell_one.ensures.kept k (c.loop-inner.invariant.done k negated low lt at)
    by_order k negated at (inr e) low = subst (λ (n : ℕ). IsTold c.tell_one.new.tables.items n) (sym e)
        (c.in_ok-tell_one.ensures.now negated (subst (λ (n : ℕ). slice_get c.args.self.now.pieces.now n ≡ Some
        (Lookahead negated)) e at))

pub returns-clause-fewer : goal.returns-clause-fewer
returns-clause-fewer g c =
    let within = slice_get_within c.args.self.now.pieces.now c.args.number (Lookahead c.requires.untold.negated)
    c.requires.untold.stands in
    fewer_untold c.args.tables.now.items c.loop-inner.tables.items c.args.number
    (omega (arith, c.loop-inner.invariant.told.counted, c.requires.told.counted)) c.loop-inner.invariant.kept
    c.requires.untold.untold
    (c.loop-inner.invariant.done c.args.number c.requires.untold.negated (omega arith) (omega arith)
    c.requires.untold.stands)
