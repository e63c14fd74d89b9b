-- How many turns a search makes at most. Contracts of private functions alone cite it.
use Rattle.std.specs.Prelude.{ℕ, suc, ◌+◌, ◌*◌, Bool, List, [], ◌∷◌, length, slice_get, replicate, Option, Some, None}
use Rattle.std.specs.Global.{Vec}
use Rattle.es_pattern.specs.declared.piece.Piece.{Piece}
use Rattle.es_pattern.specs.declared.piece.Piece.TheVariants.{Lookahead}
use Rattle.es_pattern.specs.declared.step.Direction.TheVariants.{Backward, Forward}
use Rattle.es_pattern.specs.Passing.{untold_count}
use Rattle.es_pattern.specs.Compiled.{steps_of, part_steps}

-- of a pass over so many places by a program of that size
abbrev pub pass_turns : ℕ → ℕ → ℕ
pass_turns places size = places * (4 * size + 6)

-- until the piece of that number is told, if it is a lookahead
abbrev pub turns_if_ahead : ℕ → Option Piece → ℕ → ℕ
turns_if_ahead places (Some (Lookahead negated)) size = pass_turns places size
turns_if_ahead places piece size = 0

-- until the piece of that number is told, by the program of its part
abbrev pub piece_turns : ℕ → List Piece → ℕ → ℕ
piece_turns places pieces number =
    turns_if_ahead places (slice_get pieces number) (length (part_steps Backward pieces number))

-- until all lookaheads are told, where these are the tables from that number on
abbrev pub turns_from : ℕ → List Piece → ℕ → List (Option (Vec Bool)) → ℕ
turns_from places pieces number [] = 0
turns_from places pieces number (None ∷ tables) =
    piece_turns places pieces number + turns_from places pieces (suc number) tables
turns_from places pieces number (Some table ∷ tables) = turns_from places pieces (suc number) tables

-- until all lookaheads are told, with one more for each that is asked for: the step that asks waits again
abbrev pub untold_turns : ℕ → List Piece → List (Option (Vec Bool)) → ℕ
untold_turns places pieces tables = turns_from places pieces 0 tables + untold_count tables

-- of a whole search: a pass for the whole, and one for each lookahead
abbrev pub search_turns : ℕ → List Piece → ℕ
search_turns places pieces =
    pass_turns places (length (steps_of Forward pieces)) + untold_turns places pieces (replicate (length pieces) None)
