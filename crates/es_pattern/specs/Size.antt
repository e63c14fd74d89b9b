-- How long a pattern's program is at most. Contracts of private functions alone cite it.
use Rattle.std.specs.Prelude.{◌≡◌, ℕ, ◌+◌, ◌*◌, ◌≤◌, Bool, List, length, slice_get, take, Some}
use Rattle.std.specs.Global.{Vec}
use Rattle.es_pattern.specs.declared.piece.Piece.{Piece}
use Rattle.es_pattern.specs.declared.piece.Piece.TheVariants.{Lookahead}
use Rattle.es_pattern.specs.declared.step.Step.{Step}
use Rattle.es_pattern.specs.Pieces.{tree_of}
use Rattle.es_pattern.specs.Tree.{
  Tree,
  nothing,
  one_of,
  text_start,
  text_end,
  word_boundary,
  sequence,
  choice,
  repetition,
  lookahead,
}
use Rattle.es_pattern.specs.Limits.{count_of}

-- the steps of each part as often as its quantifiers count, and at most two more for each of those times and for each
-- choice
abbrev pub most_steps : Tree → ℕ
most_steps nothing = 0
most_steps (one_of negated ranges) = 1
most_steps text_start = 1
most_steps text_end = 1
most_steps (word_boundary negated) = 1
most_steps (sequence a b) = most_steps a + most_steps b
most_steps (choice a b) = most_steps a + most_steps b + 2
most_steps (repetition least most a) = count_of least most * (most_steps a + 2)
most_steps (lookahead negated a) = 1

-- each lookahead's program is at most as long as its part allows, which the pieces before it build
abbrev pub AllBounded : List Piece → List (Vec Step) → Type 0
AllBounded pieces lookaheads = (number : ℕ) (negated : Bool) (steps : Vec Step)
    → slice_get pieces number ≡ Some (Lookahead negated) → slice_get lookaheads number ≡ Some steps
    → length steps.items ≤ most_steps (tree_of (take number pieces))
