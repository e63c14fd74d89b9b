use Rattle.std.proofs.Common.{◌≡◌, ◌+◌, ◌≤◌, ◌<◌, ℕ, Bool, Some, length}
use Rattle.std.specs.Prelude.{slice_get}
use Rattle.es_pattern.specs.declared.piece.Piece.TheVariants.{Lookahead}
use Rattle.es_pattern.specs.Passing.{AllTell, IsTold}
use Rattle.es_pattern.specs.Turns.{turns_from}
use Rattle.es_pattern.proofs.search.Search.tell.Given as goal

abbrev pub invariant-loop-inner : goal.invariant-loop-inner
invariant-loop-inner g l = record {
  told : AllTell l.self.pieces.now l.self.text.now l.tables.items;
  done : (k : ℕ) (negated : Bool) → l.first ≤ k → k < l.inner → slice_get l.self.pieces.now k ≡ Some (Lookahead negated)
      → IsTold l.tables.items k;
  turned : l.turns + turns_from (length l.self.text.now + 1) l.self.pieces.now 0 l.tables.items ≤ l.initial.turns +
      turns_from (length l.self.text.now + 1) l.self.pieces.now 0 l.initial.tables.items;
  kept : (k : ℕ) → IsTold l.initial.tables.items k → IsTold l.tables.items k;
}
