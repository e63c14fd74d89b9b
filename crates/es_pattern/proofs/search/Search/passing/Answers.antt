use Rattle.std.proofs.Common.{◌≡◌, arith}
use Rattle.std.specs.Prelude.{slice_get, Some}
use Rattle.std.proofs.lemmas.Option.{gets}
use Rattle.std.proofs.lemmas.Grind.{common_steps}
use Rattle.es_pattern.specs.declared.piece.Piece.TheVariants.{OneOf, Lookahead}
use Rattle.es_pattern.proofs.Passings.{
  passes_class,
  passes_start,
  passes_end,
  passes_boundary,
  passes_lookahead,
  passes_other,
  differs_is,
}
use Rattle.es_pattern.proofs.search.Search.passing.Goals as goal
use Rattle.es_pattern.proofs.search.Search.passing.Goals.{
  in-TextStart,
  in-TextEnd,
  in-WordBoundary,
  in-Lookahead+in_ok-holds-in-Lookahead,
  in_default-piece,
}

pub returns-in-OneOf : goal.returns-in-OneOf
returns-in-OneOf c =
    let stands : slice_get c.args.self.now.pieces.now c.args.number ≡ Some
    (OneOf c.in-OneOf.negated c.in-OneOf.ranges) = grind (arith, common_steps, gets) in
    rw (c.passing_class.ensures, c.deref.ensures.value, c.ahead-next.ensures)
    (passes_class c.args.self.now.pieces.now c.args.self.now.text.now c.args.number c.args.walk.now.place
    c.in-OneOf.negated c.in-OneOf.ranges stands c.args.walk.now.direction)

pub returns-in_err-holds-in-Lookahead : goal.returns-in_err-holds-in-Lookahead
returns-in_err-holds-in-Lookahead c =
    let stands : slice_get c.args.self.now.pieces.now c.args.number ≡ Some (Lookahead c.in-Lookahead.negated) =
    grind (arith, common_steps, gets) in
    let told = rw c.in_err-holds-in-Lookahead.was at c.told.ensures c.in-Lookahead.negated stands in
    rw c.from_residual.ensures (record { negated = c.in-Lookahead.negated; stands = stands; untold = told })

pub returns : goal.returns
returns c =
    let pieces = c.args.self.now.pieces.now in
    let text = c.args.self.now.text.now in
    let stands : slice_get pieces c.args.number ≡ Some c.in-Some.piece.now = grind (arith, common_steps, gets) in
    rw c.stays_if.ensures
    elim c.match-piece.branch [
      | in-TextStart w ↦
          rw w.holds-is (passes_start pieces text c.args.number c.args.walk.now.place c.args.walk.now.direction
          (rw w.in-TextStart.is at stands))
      | in-TextEnd w ↦
          rw w.holds-is (passes_end pieces text c.args.number c.args.walk.now.place c.args.walk.now.direction
          (rw w.in-TextEnd.is at stands))
      | in-WordBoundary w ↦
          rw (w.holds-is, differs_is w.is_boundary.result w.in-WordBoundary.negated, w.is_boundary.ensures)
          (passes_boundary pieces text c.args.number c.args.walk.now.place c.args.walk.now.direction
          w.in-WordBoundary.negated (rw w.in-WordBoundary.is at stands))
      | in-Lookahead+in_ok-holds-in-Lookahead w ↦
          (let here : slice_get pieces c.args.number ≡ Some (Lookahead w.in-Lookahead.negated) =
          rw w.in-Lookahead.is at stands in let told =
          rw w.in_ok-holds-in-Lookahead.was at w.told.ensures w.in-Lookahead.negated here in
          rw w.holds-is (passes_lookahead pieces text c.args.number c.args.walk.now.place c.args.walk.now.direction
          w.in-Lookahead.negated w.in_ok-holds-in-Lookahead.holds here told))
      | in_default-piece w ↦
          rw w.holds-is (passes_other pieces text c.args.number c.args.walk.now.place c.args.walk.now.direction
          c.in-Some.piece.now stands w.in_default-piece.not-OneOf w.in_default-piece.not-TextStart
          w.in_default-piece.not-TextEnd w.in_default-piece.not-WordBoundary w.in_default-piece.not-Lookahead)
    ]
