-- How many turns a search makes.
use Rattle.std.proofs.Common.{
  ◌≡◌,
  ℕ,
  zero,
  suc,
  ◌+◌,
  ◌*◌,
  ◌≤◌,
  Bool,
  List,
  [],
  ◌∷◌,
  length,
  Option,
  Some,
  None,
  sym,
  ap,
  arith,
}
use Rattle.std.specs.Prelude.{slice_get, set}
use Rattle.std.specs.Global.{Vec}
use Rattle.std.proofs.Math.Nat.{mul-le-mul_right}
use Rattle.std.proofs.lemmas.Option.{same_Some}
use Rattle.es_pattern.specs.declared.piece.Piece.{Piece}
use Rattle.es_pattern.specs.declared.piece.Piece.TheVariants.{Lookahead}
use Rattle.es_pattern.specs.declared.step.Direction.TheVariants.{Backward}
use Rattle.es_pattern.specs.Compiled.{part_steps}
use Rattle.es_pattern.specs.Turns.{pass_turns, piece_turns, turns_if_ahead, turns_from}
use Rattle.es_pattern.proofs.NumberTests.{no_some}

-- a pass over one place more
pub one_place : (places left size : ℕ) → left + 1 ≤ places
    → pass_turns left size + (4 * size + 6) ≤ pass_turns places size
one_place places left size le = let more : (left + 1) * (4 * size + 6) ≤ places * (4 * size + 6) =
    mul-le-mul_right (4 * size + 6) le in omega (arith, more)

-- a table more
pub told_turns : (places : ℕ) (pieces : List Piece) (from at number : ℕ) (tables : List (Option (Vec Bool)))
    (table : Vec Bool) → at + from ≡ number → slice_get tables at ≡ Some None
    → turns_from places pieces from (set tables at (Some table)) + piece_turns places pieces number ≡ turns_from places
    pieces from tables
told_turns places pieces from at number [] table e untold = cc
told_turns places pieces from zero number (None ∷ tables) table e untold =
    let same : from ≡ number = omega (arith, e) in omega (arith, ap (piece_turns places pieces) same)
told_turns places pieces from zero number (Some other ∷ tables) table e untold =
    no_some other (same_Some None (Some other) (sym untold))
told_turns places pieces from (suc at) number (None ∷ tables) table e untold =
    omega (arith, told_turns places pieces (suc from) at number tables table (omega (arith, e)) untold)
told_turns places pieces from (suc at) number (Some other ∷ tables) table e untold =
    told_turns places pieces (suc from) at number tables table (omega (arith, e)) untold

-- a lookahead takes a pass by its part's program
pub piece_passes : (places : ℕ) (pieces : List Piece) (number : ℕ) (negated : Bool)
    → slice_get pieces number ≡ Some (Lookahead negated)
    → piece_turns places pieces number ≡ pass_turns places (length (part_steps Backward pieces number))
piece_passes places pieces number negated stands =
    ap (λ (p : Option Piece). turns_if_ahead places p (length (part_steps Backward pieces number))) stands
